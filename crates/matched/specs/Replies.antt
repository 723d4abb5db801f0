-- Laws. What a matching is told: the deck's refusal, 9, another number of atoms, or what comparing gives; and the deck's molecule as numbers. Assumes nothing.
use Rattle.std.specs.Prelude.{ℕ, ◌+◌, ◌*◌, ◌≤◌, ◌<◌, List, ◌≡◌, refl, length, take, drop, Result, Ok, Err}
use Rattle.std.proofs.Common.{sym, ◌∙◌, ap, arith, take_at}
use borrow.Author.Tests.{eq-eqb, ne_eqb, lt-ltb, le-ltb}
use Rattle.std.proofs.lemmas.List.Edits.{sets, sets-eq}
use Rattle.std.proofs.Math.Seq.{length-sets}
use Rattle.graph.specs.Graph.{Graph}
use Rattle.reply.specs.Read.{Read, refused, read, refusal, as_result}
use Rattle.reply.specs.declared.Refusal.{Refusal}
use Rattle.reply.specs.declared.Counts.{Counts}
use Rattle.block.specs.Block.{graph_of, counts_of}
use Rattle.deck.specs.Deck.{Deck, deck_reply}
use Rattle.deck.specs.Molecule.{molecule_of}
use Rattle.deck.specs.declared.Form.TheVariants.{Composed}
use Rattle.whole.specs.Whole.{pair_numbers, whole_reply, numbers_after}
use Rattle.whole.specs.Work.{most_numbers}
use Rattle.whole.specs.Laws.{pairs_length, pairs_back}
use Rattle.whole.specs.Replies.{molecule_bonds, molecule_few, whole_read}
use Rattle.matched.specs.Matched.{partners, match_place, answer_at, match_answer, match_reply}
use Rattle.matched.specs.declared.Match.TheVariants.{Differs}

-- with enough numbers lent every deck that is read is written out
pub whole_told : (d : List ℕ) (n : ℕ) (k : Deck) → deck_reply Composed d ≡ read k → most_numbers ≤ n → whole_reply d n ≡ read (molecule_of d k)
whole_told d n k e h = whole_read d n k e (omega (arith, h, molecule_few d n k e, ap length (molecule_bonds d n k e)))

pub counted : (x : Counts) (m : Result Counts Refusal) (g : Graph) → m ≡ Ok x → m ≡ Ok (counts_of g) → x ≡ counts_of g
counted x m g e f = cc

pub after-length : (answer : Read Graph) (out : List ℕ) → length (numbers_after answer out) ≡ length out
unfolding numbers_after
after-length (refused r) out = refl
after-length (read g) out = length-sets out 0 (pair_numbers g.bonds)

front : (out xs : List ℕ) (n : ℕ) → n ≡ length xs → n ≤ length out → take n (sets out 0 xs) ≡ xs
front out xs n e h = rw (sets-eq xs out 0 (omega arith)) (take_at xs (drop (0 + length xs) out) n (sym e))

-- the numbers that are put read back as the molecule
pub read_back : (g : Graph) (n m : ℕ) (out : List ℕ) → n ≡ g.atoms → m ≡ 2 * length g.bonds → m ≤ length out → graph_of n (take m (numbers_after (read g) out)) ≡ g
unfolding numbers_after
read_back g n m out a b h =
    rw (front out (pair_numbers g.bonds) m (b ∙ sym (pairs_length g.bonds)) h, pairs_back g.bonds) (ap (λ (i : ℕ). record { atoms = i; bonds = g.bonds }) a)

module _ (g h : Graph) (to : List ℕ) where
  pub answer_other : (g.atoms ≡ h.atoms → ⊥) → Differs 0 ≡ match_answer g h to
  unfolding match_answer
  answer_other n = rw (ne_eqb g.atoms h.atoms n)

  pub answer_same : g.atoms ≡ h.atoms → answer_at (match_place g h to) ≡ match_answer g h to
  unfolding match_answer
  answer_same e = rw (eq-eqb g.atoms h.atoms e)

module _ (d : List ℕ) (atoms : ℕ) (bonds matching : List ℕ) where
  pub match_refused : {r : Refusal} → deck_reply Composed d ≡ refused r → Err r ≡ as_result (match_reply d atoms bonds matching)
  unfolding match_reply
  match_refused e = rw e

  module _ {k : Deck} (e : deck_reply Composed d ≡ read k) where
    pub match_short : length matching < 2 * atoms → Err (refusal 9 0) ≡ as_result (match_reply d atoms bonds matching)
    unfolding match_reply
    match_short h = rw (e, lt-ltb (length matching) (2 * atoms) h)

    pub match_answered : 2 * atoms ≤ length matching
        → Ok (match_answer (graph_of atoms bonds) (molecule_of d k) (partners d k matching atoms)) ≡ as_result (match_reply d atoms bonds matching)
    unfolding match_reply
    match_answered h = rw (e, le-ltb (length matching) (2 * atoms) h)
