use Rattle.std.proofs.Common.{◌≡◌, ◌≢◌, ◌-◌, ◌<◌, ◌∙◌, ℤ, Bool, Option, true, false, length, map, refl, sym, arith}
use mathlib.Core.Bool.{beq}
use Rattle.column_base.specs.ValidityForm.{flags, flag_at}
use Rattle.column_base.specs.Validity.{form_of}
use Rattle.column_core.specs.PrimitiveForm.{optionals}
use Rattle.runend_encode.proofs.RunReads.{AllAdjacentBelow-more, blank-read, flags-equal, numbers-equal, optional_of, shown-read}
use Rattle.runend_encode.proofs.joined.differ_between.Goals as goal
use Rattle.runend_encode.proofs.joined.differ_between.Goals.{then-eq+else-is_valid, else-eq}

clash : (a b : Bool) → b ≡ true → a ≡ b → a ≡ false → ⊥
clash a b is same other = cc

apart : (a b : Bool) → a ≡ b → beq a b ≡ false → ⊥
apart true true same other = cc
apart true false same other = cc
apart false true same other = cc
apart false false same other = cc

pub loop-run-preserved : goal.loop-run-preserved
loop-run-preserved g c =
    let number = g.T.NativePType.number in
    let items = c.args.items.now in
    let form = form_of c.args.validity.now in
    let values = optionals (map number items) (flags form (length items)) in
    let run = c.loop-run.run in
    let item = c.index-items-run.result in
    let before = c.index-items-run-in-loop-run.result in
    let fits = c.requires.counted in
    let zeroed = c.requires.zeroed in
    let inside : run < length items = omega arith in
    let ahead : run - 1 < length items = omega arith in
    let later : 0 < run = omega arith in
    let first = shown-read number items form (run - 1) before (flag_at form (run - 1)) fits ahead c.index-items-run-in-loop-run.is refl in
    let second = shown-read number items form run item (flag_at form run) fits inside c.index-items-run.is refl in
    let more = AllAdjacentBelow-more (λ (x y : Option ℤ). x ≢ y) values run (optional_of (flag_at form (run - 1)) (number before)) (optional_of (flag_at form run) (number item)) later first second in
    elim c.if-eq.branch [
      | then-eq+else-is_valid w ↦ λ begun. more (λ same.
          let marks = flags-equal (flag_at form (run - 1)) (flag_at form run) (number before) (number item) same in
          let here = w.is_valid.ensures in
          let there = w.is_valid-then-eq.ensures in
          let no = w.if-is_valid.false in
          apart _ _ (here ∙ sym marks ∙ sym there) no) (c.loop-run.invariant begun)
      | else-eq w ↦ λ begun. more (λ same.
          let equal = numbers-equal (flag_at form (run - 1)) (flag_at form run) (number before) (number item)
          (blank-read number items form (run - 1) before (flag_at form (run - 1)) fits ahead c.index-items-run-in-loop-run.is refl zeroed)
          (blank-read number items form run item (flag_at form run) fits inside c.index-items-run.is refl zeroed) same in
          let is = (g.met.T.NativePType.law.equal item before).1 (sym equal) in
          let read = c.eq.ensures in
          let no = w.if-eq.false in
          clash _ _ is read no) (c.loop-run.invariant begun)
    ]
