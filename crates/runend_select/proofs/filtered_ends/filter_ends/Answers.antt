use Rattle.std.proofs.Common.{◌≡◌, ◌∙◌, ◌+◌, ◌<◌, ◌≤◌, ℤ, List, pos, map, subst, sym, ap}
use Rattle.std.specs.Prelude.{IfOk, unsigned_abs}
use Rattle.std.specs.List.Sorted.{IsStrictlyIncreasing}
use Rattle.column_base.specs.declared.dtype.PType.{PType}
use Rattle.column_base.specs.Numbers.{numbers, ptype_of}
use Rattle.runend_windows.specs.Ends.{ends_of}
use Rattle.runend_windows.specs.Window.{last_end}
use Rattle.runend_select.specs.KeptRuns.{AreKeptAt}
use Rattle.runend_encode.proofs.Fitting.{all_stored-8, all_stored-16, all_stored-32, all_stored-64}
use Rattle.runend_select.proofs.filtered_ends.filter_ends.Goals as goal

pub filter_stored-requires-clause-fits : goal.filter_stored-requires-clause-fits
filter_stored-requires-clause-fits g c = all_stored-8 c.as_slice-stored.result.now c.type_inv.stored

pub filter_stored-requires-2-clause-fits : goal.filter_stored-requires-2-clause-fits
filter_stored-requires-2-clause-fits g c = all_stored-16 c.as_slice-stored-2.result.now c.type_inv.stored

pub filter_stored-requires-3-clause-fits : goal.filter_stored-requires-3-clause-fits
filter_stored-requires-3-clause-fits g c = all_stored-32 c.as_slice-stored-3.result.now c.type_inv.stored

pub filter_stored-requires-4-clause-fits : goal.filter_stored-requires-4-clause-fits
filter_stored-requires-4-clause-fits g c = all_stored-64 c.as_slice-stored-4.result.now c.type_inv.stored

pub filter_stored-requires-clause-increasing : goal.filter_stored-requires-clause-increasing
filter_stored-requires-clause-increasing g c =
    let same = ap (map pos) c.as_slice-stored.ensures.value ∙ sym (ap numbers c.in-U8-match_each_unsigned.is) in
    subst (λ (ends : List ℤ). IsStrictlyIncreasing (map unsigned_abs ends)) (sym same) c.requires.increasing

pub filter_stored-requires-clause-last : goal.filter_stored-requires-clause-last
filter_stored-requires-clause-last g c =
    let same = ap (map pos) c.as_slice-stored.ensures.value ∙ sym (ap numbers c.in-U8-match_each_unsigned.is) in
    subst (λ (ends : List ℤ). 0 < c.args.count → c.args.offset + c.args.count ≤ last_end (map unsigned_abs ends)) (sym same) c.requires.last

pub returns-in-U8-match_each_unsigned-clause-kept : goal.returns-in-U8-match_each_unsigned-clause-kept
returns-in-U8-match_each_unsigned-clause-kept g c =
    let same = ap (map pos) c.as_slice-stored.ensures.value ∙ sym (ap numbers c.in-U8-match_each_unsigned.is) in
    subst (λ (ends : List ℤ). IfOk c.filter_stored.result (λ parts. AreKeptAt (map unsigned_abs ends) c.args.offset (g.S.Ranked.bits c.args.selected.now) parts.1.items (ends_of parts.0))) same c.filter_stored.ensures.kept

pub returns-in-U8-match_each_unsigned-clause-typed : goal.returns-in-U8-match_each_unsigned-clause-typed
returns-in-U8-match_each_unsigned-clause-typed g c =
    subst (λ (ptype : PType). IfOk c.filter_stored.result (λ parts. parts.0.ptype ≡ ptype)) (sym (ap ptype_of c.in-U8-match_each_unsigned.is)) c.filter_stored.ensures.typed

pub filter_stored-requires-2-clause-increasing : goal.filter_stored-requires-2-clause-increasing
filter_stored-requires-2-clause-increasing g c =
    let same = ap (map pos) c.as_slice-stored-2.ensures.value ∙ sym (ap numbers c.in-U16-match_each_unsigned.is) in
    subst (λ (ends : List ℤ). IsStrictlyIncreasing (map unsigned_abs ends)) (sym same) c.requires.increasing

pub filter_stored-requires-2-clause-last : goal.filter_stored-requires-2-clause-last
filter_stored-requires-2-clause-last g c =
    let same = ap (map pos) c.as_slice-stored-2.ensures.value ∙ sym (ap numbers c.in-U16-match_each_unsigned.is) in
    subst (λ (ends : List ℤ). 0 < c.args.count → c.args.offset + c.args.count ≤ last_end (map unsigned_abs ends)) (sym same) c.requires.last

pub returns-in-U16-match_each_unsigned-clause-kept : goal.returns-in-U16-match_each_unsigned-clause-kept
returns-in-U16-match_each_unsigned-clause-kept g c =
    let same = ap (map pos) c.as_slice-stored-2.ensures.value ∙ sym (ap numbers c.in-U16-match_each_unsigned.is) in
    subst (λ (ends : List ℤ). IfOk c.filter_stored-2.result (λ parts. AreKeptAt (map unsigned_abs ends) c.args.offset (g.S.Ranked.bits c.args.selected.now) parts.1.items (ends_of parts.0))) same c.filter_stored-2.ensures.kept

pub returns-in-U16-match_each_unsigned-clause-typed : goal.returns-in-U16-match_each_unsigned-clause-typed
returns-in-U16-match_each_unsigned-clause-typed g c =
    subst (λ (ptype : PType). IfOk c.filter_stored-2.result (λ parts. parts.0.ptype ≡ ptype)) (sym (ap ptype_of c.in-U16-match_each_unsigned.is)) c.filter_stored-2.ensures.typed

pub filter_stored-requires-3-clause-increasing : goal.filter_stored-requires-3-clause-increasing
filter_stored-requires-3-clause-increasing g c =
    let same = ap (map pos) c.as_slice-stored-3.ensures.value ∙ sym (ap numbers c.in-U32-match_each_unsigned.is) in
    subst (λ (ends : List ℤ). IsStrictlyIncreasing (map unsigned_abs ends)) (sym same) c.requires.increasing

pub filter_stored-requires-3-clause-last : goal.filter_stored-requires-3-clause-last
filter_stored-requires-3-clause-last g c =
    let same = ap (map pos) c.as_slice-stored-3.ensures.value ∙ sym (ap numbers c.in-U32-match_each_unsigned.is) in
    subst (λ (ends : List ℤ). 0 < c.args.count → c.args.offset + c.args.count ≤ last_end (map unsigned_abs ends)) (sym same) c.requires.last

pub returns-in-U32-match_each_unsigned-clause-kept : goal.returns-in-U32-match_each_unsigned-clause-kept
returns-in-U32-match_each_unsigned-clause-kept g c =
    let same = ap (map pos) c.as_slice-stored-3.ensures.value ∙ sym (ap numbers c.in-U32-match_each_unsigned.is) in
    subst (λ (ends : List ℤ). IfOk c.filter_stored-3.result (λ parts. AreKeptAt (map unsigned_abs ends) c.args.offset (g.S.Ranked.bits c.args.selected.now) parts.1.items (ends_of parts.0))) same c.filter_stored-3.ensures.kept

pub returns-in-U32-match_each_unsigned-clause-typed : goal.returns-in-U32-match_each_unsigned-clause-typed
returns-in-U32-match_each_unsigned-clause-typed g c =
    subst (λ (ptype : PType). IfOk c.filter_stored-3.result (λ parts. parts.0.ptype ≡ ptype)) (sym (ap ptype_of c.in-U32-match_each_unsigned.is)) c.filter_stored-3.ensures.typed

pub filter_stored-requires-4-clause-increasing : goal.filter_stored-requires-4-clause-increasing
filter_stored-requires-4-clause-increasing g c =
    let same = ap (map pos) c.as_slice-stored-4.ensures.value ∙ sym (ap numbers c.in-U64-match_each_unsigned.is) in
    subst (λ (ends : List ℤ). IsStrictlyIncreasing (map unsigned_abs ends)) (sym same) c.requires.increasing

pub filter_stored-requires-4-clause-last : goal.filter_stored-requires-4-clause-last
filter_stored-requires-4-clause-last g c =
    let same = ap (map pos) c.as_slice-stored-4.ensures.value ∙ sym (ap numbers c.in-U64-match_each_unsigned.is) in
    subst (λ (ends : List ℤ). 0 < c.args.count → c.args.offset + c.args.count ≤ last_end (map unsigned_abs ends)) (sym same) c.requires.last

pub returns-in-U64-match_each_unsigned-clause-kept : goal.returns-in-U64-match_each_unsigned-clause-kept
returns-in-U64-match_each_unsigned-clause-kept g c =
    let same = ap (map pos) c.as_slice-stored-4.ensures.value ∙ sym (ap numbers c.in-U64-match_each_unsigned.is) in
    subst (λ (ends : List ℤ). IfOk c.filter_stored-4.result (λ parts. AreKeptAt (map unsigned_abs ends) c.args.offset (g.S.Ranked.bits c.args.selected.now) parts.1.items (ends_of parts.0))) same c.filter_stored-4.ensures.kept

pub returns-in-U64-match_each_unsigned-clause-typed : goal.returns-in-U64-match_each_unsigned-clause-typed
returns-in-U64-match_each_unsigned-clause-typed g c =
    subst (λ (ptype : PType). IfOk c.filter_stored-4.result (λ parts. parts.0.ptype ≡ ptype)) (sym (ap ptype_of c.in-U64-match_each_unsigned.is)) c.filter_stored-4.ensures.typed

pub filter_stored-requires-clause-masked : goal.filter_stored-requires-clause-masked
filter_stored-requires-clause-masked g c = c.requires.masked

pub returns-in-U8-match_each_unsigned-clause-only : goal.returns-in-U8-match_each_unsigned-clause-only
returns-in-U8-match_each_unsigned-clause-only g c = c.filter_stored.ensures.only

pub returns-in-U8-match_each_unsigned-clause-required : goal.returns-in-U8-match_each_unsigned-clause-required
returns-in-U8-match_each_unsigned-clause-required g c = c.filter_stored.ensures.required

pub filter_stored-requires-2-clause-masked : goal.filter_stored-requires-2-clause-masked
filter_stored-requires-2-clause-masked g c = c.requires.masked

pub returns-in-U16-match_each_unsigned-clause-only : goal.returns-in-U16-match_each_unsigned-clause-only
returns-in-U16-match_each_unsigned-clause-only g c = c.filter_stored-2.ensures.only

pub returns-in-U16-match_each_unsigned-clause-required : goal.returns-in-U16-match_each_unsigned-clause-required
returns-in-U16-match_each_unsigned-clause-required g c = c.filter_stored-2.ensures.required

pub filter_stored-requires-3-clause-masked : goal.filter_stored-requires-3-clause-masked
filter_stored-requires-3-clause-masked g c = c.requires.masked

pub returns-in-U32-match_each_unsigned-clause-only : goal.returns-in-U32-match_each_unsigned-clause-only
returns-in-U32-match_each_unsigned-clause-only g c = c.filter_stored-3.ensures.only

pub returns-in-U32-match_each_unsigned-clause-required : goal.returns-in-U32-match_each_unsigned-clause-required
returns-in-U32-match_each_unsigned-clause-required g c = c.filter_stored-3.ensures.required

pub filter_stored-requires-4-clause-masked : goal.filter_stored-requires-4-clause-masked
filter_stored-requires-4-clause-masked g c = c.requires.masked

pub returns-in-U64-match_each_unsigned-clause-only : goal.returns-in-U64-match_each_unsigned-clause-only
returns-in-U64-match_each_unsigned-clause-only g c = c.filter_stored-4.ensures.only

pub returns-in-U64-match_each_unsigned-clause-required : goal.returns-in-U64-match_each_unsigned-clause-required
returns-in-U64-match_each_unsigned-clause-required g c = c.filter_stored-4.ensures.required

pub filter_stored-requires-clause-ranked : goal.filter_stored-requires-clause-ranked
filter_stored-requires-clause-ranked g c = c.requires.ranked

pub filter_stored-requires-clause-first : goal.filter_stored-requires-clause-first
filter_stored-requires-clause-first g c = c.requires.first

pub filter_stored-requires-2-clause-ranked : goal.filter_stored-requires-2-clause-ranked
filter_stored-requires-2-clause-ranked g c = c.requires.ranked

pub filter_stored-requires-2-clause-first : goal.filter_stored-requires-2-clause-first
filter_stored-requires-2-clause-first g c = c.requires.first

pub filter_stored-requires-3-clause-ranked : goal.filter_stored-requires-3-clause-ranked
filter_stored-requires-3-clause-ranked g c = c.requires.ranked

pub filter_stored-requires-3-clause-first : goal.filter_stored-requires-3-clause-first
filter_stored-requires-3-clause-first g c = c.requires.first

pub filter_stored-requires-4-clause-ranked : goal.filter_stored-requires-4-clause-ranked
filter_stored-requires-4-clause-ranked g c = c.requires.ranked

pub filter_stored-requires-4-clause-first : goal.filter_stored-requires-4-clause-first
filter_stored-requires-4-clause-first g c = c.requires.first
