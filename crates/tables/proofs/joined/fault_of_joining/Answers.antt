use Rattle.std.proofs.Common.{◌∙◌, ◌+◌, ◌^◌, None, Option, Some, ap, cond, map, nat_lt, sym}
use Rattle.std.specs.Option.{option_or}
use Rattle.column_base.specs.declared.error.VortexError.{VortexError}
use Rattle.column_base.specs.declared.error.VortexError.TheVariants.{WindowOverflow}
use Rattle.tables.proofs.Appends.{joining_of_count}
use Rattle.tables.proofs.Worked.{dtype_in}
use Rattle.tables.proofs.joined.fault_of_joining.Goals as goal

pub returns-in-Some : goal.returns-in-Some
returns-in-Some g c =
    sym (ap (λ (own : Option VortexError). option_or own (cond (nat_lt (c.args.count + c.args.more) (2 ^ 64)) None (Some WindowOverflow))) (sym c.first_list_fault.ensures ∙ c.in-Some.is))

pub returns : goal.returns
returns g c = c.fault_of_count.ensures ∙ sym (joining_of_count (map dtype_in c.args.columns.now) (c.args.count + c.args.more) (sym c.first_list_fault.ensures ∙ c.in_default.is))
