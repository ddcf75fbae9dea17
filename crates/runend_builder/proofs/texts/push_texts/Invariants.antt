use Rattle.std.proofs.Common.{◌≡◌, ◌≤◌, ◌++◌, [], ◌∷◌, drop, length, take}
use Rattle.runend_builder.specs.Texts.{AreCut, texts_of}
use Rattle.runend_builder.proofs.texts.push_texts.Given as goal

abbrev pub invariant-loop-row : goal.invariant-loop-row
invariant-loop-row g l = record {
  rest : texts_of (l.bytes.items ∷ []) l.views.items ++ drop l.row (texts_of l.part.buffers l.part.views)
      ≡ texts_of (l.fn.bytes.items ∷ []) l.fn.views.items ++ drop l.start (texts_of l.part.buffers l.part.views);
  within : l.row ≤ length l.part.views;
  cut : AreCut l.part.kind (l.bytes.items ∷ []) l.views.items;
  long_views : length l.fn.views.items ≤ length l.views.items;
  first_views : take (length l.fn.views.items) l.views.items ≡ l.fn.views.items;
  long_bytes : length l.fn.bytes.items ≤ length l.bytes.items;
  first_bytes : take (length l.fn.bytes.items) l.bytes.items ≡ l.fn.bytes.items;
}
