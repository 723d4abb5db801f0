-- Laws. What the C functions for large molecules tell: 0 exactly where the molecule is written out, and where a matching holds. Assumes nothing.
use Rattle.std.specs.Prelude.{ℕ, ◌*◌, List, ◌↔◌, ◌≡◌, refl, ltb, length}
use Rattle.std.proofs.Common.{ap, arith}
use Rattle.reply.specs.Read.{Read, refused, read, refuse_if, as_result}
use Rattle.reply.specs.Chain.{not_read}
use Rattle.deck.specs.Deck.{deck_reply}
use Rattle.deck.specs.Molecule.{molecule_of}
use Rattle.deck.specs.declared.Form.TheVariants.{Composed}
use Rattle.whole.specs.Whole.{whole_reply}
use Rattle.matched.specs.Matched.{match_reply}
use Rattle.matched.specs.declared.Match.{Match}
use Rattle.matched.specs.declared.Match.TheVariants as matched
use Rattle.whole_calls.specs.Replies.{out_reply, match_code}
use Rattle.same_molecule.specs.Same.{Same, matched_renumbered}
use Rattle.calls.specs.Convention.{most_place}
use Rattle.told.specs.Bounded.{Bounded, then_bounded, if_bounded, deck_bounded}
use Rattle.told.specs.Recovered.{Tells, tells}

whole_bounded : (d : List ℕ) (room : ℕ) → Bounded most_place (whole_reply d room)
unfolding whole_reply
whole_bounded d room =
    then_bounded most_place (deck_reply Composed d) _ (deck_bounded Composed d) (λ k e.
    then_bounded most_place (refuse_if (ltb room (2 * length (molecule_of d k).bonds)) 9 0) _ (if_bounded most_place (ltb room (2 * length (molecule_of d k).bonds)) 9 0 (omega arith)) (λ u f. tt))

pub written_out_tells : (d : List ℕ) (room entries : ℕ) → Tells (out_reply d room entries)
written_out_tells d room entries =
    tells (out_reply d room entries) (then_bounded most_place (whole_reply d room) _ (whole_bounded d room) (λ g e.
    then_bounded most_place (refuse_if (ltb entries 2) 9 0) (λ _. read g) (if_bounded most_place (ltb entries 2) 9 0 (omega arith)) (λ u f. tt)))

match_bounded : (d : List ℕ) (atoms : ℕ) (bonds matching : List ℕ) → Bounded most_place (match_reply d atoms bonds matching)
unfolding match_reply
match_bounded d atoms bonds matching =
    then_bounded most_place (deck_reply Composed d) _ (deck_bounded Composed d) (λ k e.
    then_bounded most_place (refuse_if (ltb (length matching) (2 * atoms)) 9 0) _ (if_bounded most_place (ltb (length matching) (2 * atoms)) 9 0 (omega arith)) (λ u f. tt))

match_zero : (R : Read Match) → Bounded most_place R → match_code (as_result R) ≡ 0 → R ≡ read matched.Same
match_zero (refused r) s e = absurd (not_read ((tells {A = Match} (refused r) s).fine e).1)
match_zero (read matched.Same) s e = refl
match_zero (read (matched.Differs p)) s e = absurd (omega (arith, e))

pub matched_tells : (d : List ℕ) (atoms : ℕ) (bonds matching : List ℕ) → (match_code (as_result (match_reply d atoms bonds matching)) ≡ 0) ↔ (match_reply d atoms bonds matching ≡ read matched.Same)
matched_tells d atoms bonds matching =
    (match_zero (match_reply d atoms bonds matching) (match_bounded d atoms bonds matching), λ e. ap (λ (R : Read Match). match_code (as_result R)) e)

-- THE HEADLINE in the number that C is told: after 0 the deck's molecule and the listed one differ only in the numbering of their atoms
pub zero_matched : (d : List ℕ) (atoms : ℕ) (bonds matching : List ℕ) → match_code (as_result (match_reply d atoms bonds matching)) ≡ 0 → Same d atoms bonds
zero_matched d atoms bonds matching z = matched_renumbered d atoms bonds matching ((matched_tells d atoms bonds matching).0 z)
