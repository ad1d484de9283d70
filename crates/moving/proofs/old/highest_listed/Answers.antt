-- `moving::old::highest_listed` meets its contract: the greatest of the ids, or 0.
-- Assumes nothing.
use mathlib.Core.Path.{◌≡◌, sym, ◌∙◌}
use Rattle.std.specs.List.{reduce}
use Rattle.std.specs.Prelude.{max}
use Rattle.std.proofs.lemmas.Iterator.Adapters.{option_map_id}
use Rattle.std.proofs.lemmas.Iterator.{YieldsList-from_slice}
use Rattle.std.proofs.lemmas.Iterator.Consumers.{YieldsList-from_copied, max_from_yields_List}
use Rattle.moving.specs.Old.{highest_listed}
use Rattle.moving.proofs.OldReads.{highest_reduced}
use Rattle.moving.proofs.old.highest_listed.Goals as goal

pub returns : goal.returns
unfolding highest_listed
returns c =
    let most : c.max.result ≡ reduce max c.args.th.ids =
    sym (option_map_id _) ∙ max_from_yields_List c.copied.result _ c.max.ensures.ran (YieldsList-from_copied (YieldsList-from_slice c.args.th.ids cc)) in
    c.unwrap_or.ensures ∙ rw most (highest_reduced c.args.th.ids)
