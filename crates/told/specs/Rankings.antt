-- Laws. What the one number of a C reply about a ranking tells, with nothing assumed.
use Rattle.std.specs.Prelude.{ℕ, Bool, List, eqb, get_or}
use Rattle.std.proofs.Common.{arith}
use Rattle.reply.specs.Read.{refuse_if, is_outside}
use Rattle.catalogue.specs.Library.{library_reply}
use Rattle.library.specs.Values.{most_fields}
use Rattle.placing.specs.Entries.{room}
use Rattle.ranking.specs.Best.{best_reply}
use Rattle.calls.specs.Convention.{most_place}
use Rattle.ranking_calls.specs.Ranks.{wants_greatest, lent_for, best_for}
use Rattle.told.specs.Bounded.{Bounded, then_bounded, if_bounded}
use Rattle.told.specs.Recovered.{Tells, tells}
use Rattle.told.specs.Libraries.{library_bounded}

best_bounded : (d : List ℕ) (field : ℕ) (g : Bool) (tag : ℕ) (entries : List ℕ) (held : ℕ) → Bounded most_place (best_reply d field g tag entries held)
unfolding best_reply
best_bounded d field g tag entries held = then_bounded most_place (library_reply d) _ (library_bounded d) (λ l e.
    then_bounded most_place (refuse_if (is_outside most_fields field) 35 0) _ (if_bounded most_place (is_outside most_fields field) 35 0 (omega arith)) (λ u f.
    then_bounded most_place (refuse_if (eqb (room entries) 0) 9 0) _ (if_bounded most_place (eqb (room entries) 0) 9 0 (omega arith)) (λ v h. tt)))

pub library_best_tells : (d : List ℕ) (field greatest tag : ℕ) (best held : List ℕ) → Tells (best_for d field greatest tag best held)
library_best_tells d field greatest tag best held =
    tells (best_for d field greatest tag best held) (best_bounded d field (wants_greatest greatest) tag (lent_for held best) (get_or held 0 0))
