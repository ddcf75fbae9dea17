-- The lines of bytes: of a metadata record, and of a column's message.
use Rattle.std.specs.Prelude.{◌≡◌, ◌++◌, ℕ, List, Result, Ok, Err, codes}
use Rattle.std.specs.String.{string_bytes}
use Rattle.column_base.specs.declared.error.VortexError.{VortexError}
use Rattle.column_base.specs.declared.error.VortexError.TheVariants.{Unsupported}
use Rattle.column_bytes.specs.Bytes.{column_bytes}
use Rattle.column_bytes.specs.Read.{IsUnsupportedOrMemory, IsWritable}
use Rattle.column_words.specs.Bytes.{byte_words}
use Rattle.column_words.specs.Refusals.{behind_spaces}
use Rattle.runend_array.specs.Column.{Column}
use Rattle.runend_script.specs.declared.scripts.Reply.{Reply}
use Rattle.runend_script.specs.declared.scripts.Reply.TheVariants.{Line}

-- the name of a line, and its bytes, each as a word
abbrev pub bytes_text : List ℕ → List ℕ → List ℕ
bytes_text name bytes = name ++ behind_spaces (byte_words bytes)

-- the line of the column's message
abbrev pub message_text : Column → List ℕ
message_text c = bytes_text (codes "bytes") (column_bytes c)

-- the reply is the line of the column's message, unless that is refused: as `Unsupported` where there is none, or for
-- memory
abbrev pub IsMessageReply : {A : Type 0} → Column → Result (Reply A) VortexError → Type 0
IsMessageReply c (Ok (Line text)) = IsWritable 16 c × (string_bytes text ≡ message_text c)
IsMessageReply c (Ok reply) = ⊥
IsMessageReply c (Err error) = IsUnsupportedOrMemory error × (error ≡ Unsupported → ¬ IsWritable 16 c)
