-- Laws. THE HEADLINE, on one page: what a judged deck is told, the molecule that it is told of, and what accepting means. The first five say what the
-- definitions are, and hold by computing; then what the molecule and its distances are, and the theorem. The same of the number that C is told is
-- `zero_exactly` (told/specs/Accepted.antt). Assumes nothing.
use Rattle.std.specs.Prelude.{ℕ, zero, suc, ◌-◌, List, [], ◌∷◌, ◌↔◌, ◌≡◌, refl}
use Rattle.std.proofs.Common.{sym, arith}
use Rattle.graph.specs.Graph.{Graph, Within, Molecule, Shortest, distance, wiener, even_part, odd_part, polarity}
use Rattle.graph.specs.Distance.{distance_shortest}
use Rattle.graph.specs.Climb.{written_molecule}
use Rattle.graph.specs.Farthest.{largest}
use Rattle.graph.specs.Assembly.{Join, joined, atom_of, written}
use Rattle.reply.specs.Read.{refused, read, ◌then◌}
use Rattle.reply.specs.declared.Refusal.{Refusal}
use Rattle.block.specs.Index.{indices_of}
use Rattle.deck.specs.Deck.{Deck, deck_reply}
use Rattle.deck.specs.Molecule.{graph_at, join_at, molecule_of}
use Rattle.deck.specs.Sound.{whole}
use Rattle.deck.specs.declared.Form.TheVariants.{Judged}
use Rattle.records.specs.Records.{sheet_at}
use Rattle.records.specs.declared.Sheet.TheVariants.{Five, Six}
use Rattle.sheets.specs.Sheets.{all_fields, fields_of, sheet_of, claimed_at, first_wrong}
use Rattle.sheets.specs.Back.{none_wrong, wrong_none}
use Rattle.judging.specs.Judging.{judge_reply, said_verdict}
use Rattle.judging.specs.declared.Verdict.TheVariants as verdict

-- `judge` promises `r ≡ said_verdict (judge_reply d)`: the deck's refusal, or the first field of the claimed sheet that is not the molecule's, 0 for none
pub judged : (d : List ℕ) → judge_reply d ≡ (deck_reply Judged d then λ k. read (first_wrong 1 (sheet_of (sheet_at d k.sheet) (molecule_of d k)) (claimed_at d k.sheet)))
unfolding judge_reply
judged d = refl

pub told : (r : Refusal) (n : ℕ)
    → (said_verdict (refused r) ≡ verdict.Refused r) × (said_verdict (read 0) ≡ verdict.Accepted) × (said_verdict (read (suc n)) ≡ verdict.Differs (suc n))
told r n = (refl, refl, refl)

-- the molecule of a deck: the blocks of its placements, each joined by one bond to those before it
pub molecule_is : (d : List ℕ) (k : Deck) → molecule_of d k ≡ written (graph_at d k) (join_at d k) (k.placements - 1)
unfolding molecule_of
molecule_is d k = refl

pub written_is : (blocks : ℕ → Graph) (joins : ℕ → Join) (m : ℕ) → (written blocks joins 0 ≡ blocks 0)
    × (written blocks joins (suc m) ≡ joined (written blocks joins m) (blocks (suc m)) (atom_of blocks (joins (suc m)).parent (joins (suc m)).site) (joins (suc m)).own)
unfolding written
written_is blocks joins m = (refl, refl)

-- it is one: every bond ends at its atoms, and a walk leads from each atom to each; the distance of two atoms is the number of bonds of a shortest walk
pub molecule : (d : List ℕ) (k : Deck) → deck_reply Judged d ≡ read k → Molecule (molecule_of d k)
unfolding molecule_of
molecule d k e = written_molecule (k.placements - 1) (whole Judged d k e).assembled

pub distance_is : (d : List ℕ) (k : Deck) → deck_reply Judged d ≡ read k → {i j : ℕ} → Within (molecule_of d k).atoms i → Within (molecule_of d k).atoms j
    → Shortest (molecule_of d k) i j (distance (molecule_of d k) i j)
distance_is d k e = distance_shortest (molecule d k e)

-- its sheet of five fields, and of six
pub sheet_is : (g : Graph) → (sheet_of Five g ≡ g.atoms ∷ wiener g ∷ even_part g ∷ odd_part g ∷ polarity g ∷ [])
    × (sheet_of Six g ≡ g.atoms ∷ wiener g ∷ even_part g ∷ odd_part g ∷ polarity g ∷ largest g ∷ [])
unfolding sheet_of fields_of all_fields indices_of
sheet_is g = (refl, refl)

-- a verdict accepts where no field is wrong, and only there
no_wrong : (n : ℕ) → said_verdict (read n) ≡ verdict.Accepted → n ≡ 0
no_wrong zero e = refl
no_wrong (suc n) e = absurd (let z : ◌≡◌ {A = ℕ} 0 1 = cc in omega arith)

-- THE THEOREM, over either kind: a judged deck that is not refused is accepted if and only if the fields that its sheet has are those of the molecule written out
pub accepted_exactly : (d : List ℕ) (k : Deck) → deck_reply Judged d ≡ read k
    → (said_verdict (judge_reply d) ≡ verdict.Accepted) ↔ (claimed_at d k.sheet ≡ sheet_of (sheet_at d k.sheet) (molecule_of d k))
unfolding judge_reply
accepted_exactly d k e =
    let own = sheet_of (sheet_at d k.sheet) (molecule_of d k) in
    (λ a. sym (wrong_none 0 own (claimed_at d k.sheet) (no_wrong _ (rw e at a))), λ q. rw (e, q, none_wrong 1 own))
