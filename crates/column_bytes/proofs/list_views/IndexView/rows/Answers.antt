use Rattle.std.proofs.Common.{subst}
use Rattle.column_bytes.specs.ListViews.{ShowsIndex}
use Rattle.column_bytes.proofs.PartWalks.{flat_rows}
use Rattle.column_bytes.proofs.list_views.IndexView.rows.Goals as goal

pub returns-in-Flat : goal.returns-in-Flat
returns-in-Flat c = λ i s. flat_rows i c.in-Flat.items (subst (λ v. ShowsIndex v i) c.in-Flat.is s)
