-- What contracts see of a `Buffer`.
use Rattle.std.specs.Prelude.{List, refl}
use Rattle.std.specs.Coded.{Coded, code_by, coded_list}

-- the items, in order
pub record Buffer (T : Type 0) : Type 0 where
  pub items : List T

-- a buffer is coded as the list of its items
abbrev pub buffer_code : {T : Type 0} → Coded T → Coded (Buffer T)
buffer_code {T} code =
    code_by (List T) (coded_list code) (λ b. b.items) (λ xs. record { items = xs }) (λ _. refl)
