-- Errors that are passed on.
use Rattle.std.proofs.Common.{◌≡◌, Bool, false, Result, Err, ap, inl, inr}
use Rattle.std.specs.Prelude.{IsTrue}
use Rattle.column_base.specs.declared.error.VortexError.{VortexError}
use Rattle.column_base.specs.declared.error.VortexError.TheVariants.{BadMetadata, OutOfMemory}
use Rattle.column_fields.specs.Refusal.{IsBadOrMemory}

abbrev failed : (T : Type 0) → VortexError → Result T VortexError
failed T e = Err e

pub same_error : {T U : Type 0} (x y : VortexError) → failed T x ≡ failed T y → failed U x ≡ failed U y
same_error {T} {U} x y e = let s : x ≡ y = cc in ap (failed U) s

pub not_true : (b : Bool) → b ≡ false → IsTrue b → ⊥
not_true b e h = absurd cc

pub memory_left : (e : VortexError) → IsBadOrMemory e → (e ≡ BadMetadata → ⊥) → e ≡ OutOfMemory
memory_left e (inl bad) h = absurd (h bad)
memory_left e (inr memory) h = memory

pub failed_by : {T : Type 0} (x y : VortexError) → x ≡ y → failed T x ≡ failed T y
failed_by {T} x y e = ap (failed T) e
