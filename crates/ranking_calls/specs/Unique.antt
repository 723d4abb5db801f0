-- Laws. The promise leaves one reply, and both lent outputs as one list each. Assumes nothing.
use Rattle.std.specs.Prelude.{ℕ, List, ◌≡◌}
use Rattle.std.proofs.Common.{sym, ◌∙◌}
use Rattle.reply.specs.Read.{Read}
use Rattle.placing.specs.Ranked.{Entry}
use Rattle.ranking_calls.specs.Ranks.{Ranks}

pub ranks_once : {answer : Read (List Entry)} {best held best' best'' held' held'' : List ℕ} {x y : ℕ} → Ranks answer best held x best' held' → Ranks answer best held y best'' held''
    → (x ≡ y) × (best' ≡ best'') × (held' ≡ held'')
ranks_once p q = (p.replied ∙ sym q.replied, p.entries ∙ sym q.entries, p.many ∙ sym q.many)
