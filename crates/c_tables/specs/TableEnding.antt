-- How a call on tables ends: a number, and the fields of an error.
use Rattle.std.specs.Prelude.{◌≡◌, ◌⊎◌, ℕ, ℤ, pos, Option, Some, None}
use Rattle.std.specs.Option.{option_or}
use Rattle.column_base.specs.Error.{number_of}
use Rattle.column_base.specs.declared.error.VortexError.{VortexError}
use Rattle.column_base.specs.declared.error.VortexError.TheVariants.{OutOfMemory}
use Rattle.tables.specs.declared.fault.TableError.{TableError}
use Rattle.tables.specs.declared.fault.TableError.TheVariants.{Refused, NameCount, RowCount, RepeatedName, UnknownName, NoKeys, UnsupportedKey, NewNameCount, OtherNames, OtherType, RepeatedNewName, UnknownColumn, UnsupportedAnswer, RepeatedAnswer, SumOverflow}
use Rattle.c_columns.specs.Ending.{AreFields, HasFields}
use Rattle.c_columns.specs.declared.error_fields.ErrorFields.{ErrorFields}

-- the number of a refusal: that of a column's, or one that only tables have
abbrev pub table_number : TableError → ℕ
table_number (Refused error) = number_of error
table_number (UnknownName name) = 201
table_number (RepeatedName earlier name) = 202
table_number (NameCount names columns) = 205
table_number (RowCount column found wanted) = 206
table_number (NewNameCount names new_names) = 207
table_number OtherNames = 208
table_number (OtherType column) = 209
table_number (RepeatedNewName earlier column) = 210
table_number NoKeys = 211
table_number (UnsupportedKey key) = 212
table_number (UnknownColumn answer) = 213
table_number (UnsupportedAnswer answer) = 214
table_number (RepeatedAnswer earlier answer) = 215
table_number (SumOverflow answer group) = 216

-- the fields of a refusal, in their order, and 0 for each that it does not have
abbrev pub HasTableFields : TableError → ErrorFields → Type 0
HasTableFields (Refused error) f = HasFields error f
HasTableFields (UnknownName name) f = AreFields f name 0 0
HasTableFields (RepeatedName earlier name) f = AreFields f earlier name 0
HasTableFields (NameCount names columns) f = AreFields f names columns 0
HasTableFields (RowCount column found wanted) f = AreFields f column found wanted
HasTableFields (NewNameCount names new_names) f = AreFields f names new_names 0
HasTableFields OtherNames f = AreFields f 0 0 0
HasTableFields (OtherType column) f = AreFields f column 0 0
HasTableFields (RepeatedNewName earlier column) f = AreFields f earlier column 0
HasTableFields NoKeys f = AreFields f 0 0 0
HasTableFields (UnsupportedKey key) f = AreFields f key 0 0
HasTableFields (UnknownColumn answer) f = AreFields f answer 0 0
HasTableFields (UnsupportedAnswer answer) f = AreFields f answer 0 0
HasTableFields (RepeatedAnswer earlier answer) f = AreFields f earlier answer 0
HasTableFields (SumOverflow answer group) f = AreFields f answer group 0

-- the call is refused for this error: with its number and its fields
abbrev pub IsTableRefusedAs : TableError → ℤ → ErrorFields → Type 0
IsTableRefusedAs error code fields = (code ≡ pos (table_number error)) × HasTableFields error fields

-- memory was refused, or it is an error of this kind
abbrev pub IsMemoryOr : (TableError → Type 0) → TableError → Type 0
IsMemoryOr Why error = (error ≡ Refused OutOfMemory) ⊎ Why error

-- only memory is refused
abbrev pub IsMemory : TableError → Type 0
IsMemory error = error ≡ Refused OutOfMemory

-- it is this fault, and there is one
abbrev pub IsFault : Option VortexError → TableError → Type 0
IsFault fault error = (why : VortexError) × (error ≡ Refused why) × (fault ≡ Some why)

-- it is the fault exactly where there is one, however little memory there is, and else memory was refused
abbrev pub IsFaultFirst : Option VortexError → TableError → Type 0
IsFaultFirst fault error = IsFault (option_or fault (Some OutOfMemory)) error

-- the call ends with 0, or for an error of this kind
abbrev pub EndsFor : (TableError → Type 0) → ℤ → ErrorFields → Type 0
EndsFor Why code fields = (code ≡ pos 0) ⊎ ((error : TableError) × Why error × IsTableRefusedAs error code fields)

-- how a call on what one handle holds ends: with 22 where the handle is empty
abbrev pub EndsOnOne : {X : Type 0} → (X → TableError → Type 0) → Option X → ℤ → ErrorFields → Type 0
EndsOnOne Why None code fields = code ≡ pos 22
EndsOnOne Why (Some x) code fields = EndsFor (Why x) code fields

-- on what two handles hold: with 22 where one of them is empty
abbrev pub EndsOnBoth : {X Y : Type 0} → (X → Y → TableError → Type 0) → Option X → Option Y → ℤ → ErrorFields → Type 0
EndsOnBoth Why None y code fields = code ≡ pos 22
EndsOnBoth Why (Some x) None code fields = code ≡ pos 22
EndsOnBoth Why (Some x) (Some y) code fields = EndsFor (Why x y) code fields

-- on what three handles hold
abbrev pub EndsOnThree : {X Y Z : Type 0} → (X → Y → Z → TableError → Type 0) → Option X → Option Y → Option Z → ℤ → ErrorFields → Type 0
EndsOnThree Why None y z code fields = code ≡ pos 22
EndsOnThree Why (Some x) None z code fields = code ≡ pos 22
EndsOnThree Why (Some x) (Some y) None code fields = code ≡ pos 22
EndsOnThree Why (Some x) (Some y) (Some z) code fields = EndsFor (Why x y z) code fields

-- on what four handles hold
abbrev pub EndsOnFour : {W X Y Z : Type 0} → (W → X → Y → Z → TableError → Type 0) → Option W → Option X → Option Y → Option Z → ℤ → ErrorFields → Type 0
EndsOnFour Why None x y z code fields = code ≡ pos 22
EndsOnFour Why (Some w) None y z code fields = code ≡ pos 22
EndsOnFour Why (Some w) (Some x) None z code fields = code ≡ pos 22
EndsOnFour Why (Some w) (Some x) (Some y) None code fields = code ≡ pos 22
EndsOnFour Why (Some w) (Some x) (Some y) (Some z) code fields = EndsFor (Why w x y z) code fields
