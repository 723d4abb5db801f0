-- Laws. What a number of a text says is its decimal value, however many digits it has, or `too_much` where that is more. Assumes nothing.
use Rattle.std.specs.Prelude.{ℕ, suc, ◌+◌, ◌*◌, min, true, List, [], ◌∷◌, ◌++◌, ◌≡◌, length}
use Rattle.std.proofs.Common.{arith}
use Rattle.graph.specs.Bonds.{both}
use Rattle.text.specs.Text.{is_digit, digit, all_digits, value_from}
use Rattle.adjacency.specs.Neighbours.{text_number, too_much, grown, run, numbers_from}

pub capped : (ds rest : List ℕ) (v place at : ℕ) → all_digits ds ≡ true
    → numbers_from (run (text_number (min v too_much) place)) at (ds ++ rest) ≡ numbers_from (run (text_number (min (value_from v ds) too_much) place)) (at + length ds) rest
unfolding value_from all_digits numbers_from
capped [] rest v place at d = let e : at + 0 ≡ at = omega arith in rw e
capped (b ∷ ds) rest v place at d =
    let p = both (is_digit b) (all_digits ds) d in
    let more : grown (min v too_much) b ≡ min (10 * v + digit b) too_much = omega arith in
    let next : at + suc (length ds) ≡ at + 1 + length ds = omega arith in
    rw (p.0, more, next) (capped ds rest (10 * v + digit b) place (at + 1) p.1)
