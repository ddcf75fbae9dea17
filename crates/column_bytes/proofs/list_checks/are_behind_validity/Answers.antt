use Rattle.std.proofs.Common.{arith}
use Rattle.std.proofs.lemmas.Bool.{OnTrue_from, OnFalse_from}
use Rattle.column_fields.proofs.Refusals.{not_true}
use Rattle.runend_array.specs.Lists.{lists_with}
use Rattle.column_bytes.proofs.ListChecks.{parts_do_not_fit, parts_fit}
use Rattle.column_bytes.proofs.ListReads.{no_elements, no_list_fields, no_offsets, no_sizes, none_behind}
use Rattle.column_bytes.proofs.list_checks.are_behind_validity.Goals as goal

pub returns-in_default-clause-no : goal.returns-in_default-clause-no
returns-in_default-clause-no c = λ form shows counted. no_list_fields c.args.levels c.args.rows form c.args.bytes.now (omega arith) c.in_default.ensures.none

pub returns-in_default-count_elements-clause-no : goal.returns-in_default-count_elements-clause-no
returns-in_default-count_elements-clause-no c = λ form shows counted.
    let f = c.in-Some.ensures in
    no_elements c.args.levels c.args.rows form c.args.bytes.now (omega arith) c.in-Some.fields.elements.now c.in-Some.fields.offsets.now c.in-Some.fields.sizes.now f.small.0 f.small.1 f.small.2 f.found c.in_default-count_elements.ensures.none

pub returns-in_default-view_index-clause-no : goal.returns-in_default-view_index-clause-no
returns-in_default-view_index-clause-no c = λ form shows counted.
    let f = c.in-Some.ensures in
    let e = c.in-Some-count_elements.ensures.found in
    none_behind c.args.levels c.args.rows form c.args.bytes.now (omega arith) c.in-Some.fields.elements.now c.in-Some.fields.offsets.now c.in-Some.fields.sizes.now f.small.0 f.small.1 f.small.2 f.found e.0 e.1 (no_offsets c.args.levels c.args.rows e.0 form c.in-Some.fields.offsets.now c.in-Some.fields.sizes.now c.in_default-view_index.ensures.none)

pub returns-in_default-view_index-2-clause-no : goal.returns-in_default-view_index-2-clause-no
returns-in_default-view_index-2-clause-no c = λ form shows counted.
    let f = c.in-Some.ensures in
    let e = c.in-Some-count_elements.ensures.found in
    none_behind c.args.levels c.args.rows form c.args.bytes.now (omega arith) c.in-Some.fields.elements.now c.in-Some.fields.offsets.now c.in-Some.fields.sizes.now f.small.0 f.small.1 f.small.2 f.found e.0 e.1 (no_sizes c.args.levels c.args.rows e.0 form c.in-Some.fields.offsets.now c.in-Some.fields.sizes.now c.in_default-view_index-2.ensures.none)

pub returns-clause-yes : goal.returns-clause-yes
returns-clause-yes c = λ form shows counted.
    let f = c.in-Some.ensures in
    let e = c.in-Some-count_elements.ensures.found in
    let o = c.in-Some-view_index.ensures.found in
    let s = c.in-Some-view_index-2.ensures.found in
    let fits = c.make_lists.ensures (lists_with e.0 o.0 s.0 form) (record { elements = e.2; offsets = o.2; sizes = s.2; validity = shows; flagged = counted }) in
    OnTrue_from c.make_lists.result _ (λ yes. parts_fit c.args.levels c.args.rows form c.args.bytes.now c.in-Some.fields.elements.now c.in-Some.fields.offsets.now c.in-Some.fields.sizes.now (omega arith) f.small.0 f.small.1 f.small.2 f.found e.0 o.0 s.0 e.1 o.1 s.1 (fits.0 yes))

pub returns-clause-no : goal.returns-clause-no
returns-clause-no c = λ form shows counted.
    let f = c.in-Some.ensures in
    let e = c.in-Some-count_elements.ensures.found in
    let o = c.in-Some-view_index.ensures.found in
    let s = c.in-Some-view_index-2.ensures.found in
    let fits = c.make_lists.ensures (lists_with e.0 o.0 s.0 form) (record { elements = e.2; offsets = o.2; sizes = s.2; validity = shows; flagged = counted }) in
    OnFalse_from c.make_lists.result _ (λ no. parts_do_not_fit c.args.levels c.args.rows form c.args.bytes.now c.in-Some.fields.elements.now c.in-Some.fields.offsets.now c.in-Some.fields.sizes.now (omega arith) f.small.0 f.small.1 f.small.2 f.found e.0 o.0 s.0 e.1 o.1 s.1 (λ are. not_true c.make_lists.result no (fits.1 are)))
