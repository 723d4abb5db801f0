-- Laws. The lines of a file part by part. Assumes nothing.
use Prim.Native.Nat.{ℕ, ◌+◌, ◌≤◌}
use mathlib.Core.Bool.{true, false, ◌||◌, not}
use mathlib.Core.List.{List}
use mathlib.Core.Path.{◌≡◌, refl, sym, ◌∙◌}
use native.Mathlib.Omega.{arith}
use borrow.Author.Tests.{not-false}
use lib.ListN.{length, drop}
use Rattle.reply.specs.Read.{Read, refused, read, ◌then◌, refusal, refuse_if}
use Rattle.reply.specs.Chain.{then-read, if_read, neither}
use Rattle.reply.specs.declared.Refusal.{Refusal}
use Rattle.text.specs.Text.{character_at, is_number, three_at, line_starts}
use Rattle.text.specs.Laws.{three_below}
use Rattle.molfile.specs.Molfile.{counts_place, rest_place, atom_line_count, bond_line_count, end_word, in_turn, line_reply, header_reply, numbers_reply, atom_reply, bond_reply_of, end_line_reply, lines_reply}
use Rattle.molfile.specs.Work.{most, Marks, Ends, counts_reply, lists_reply, rest_reply}

module _ (d : List ℕ) where
  pub counts_no_header : (r : Refusal) → in_turn 3 (header_reply d) ≡ refused r → counts_reply d ≡ refused r
  unfolding counts_reply
  counts_no_header r e = rw e

  pub counts_go_on : in_turn 3 (header_reply d) ≡ read tt → counts_reply d ≡ numbers_reply d (counts_place d)
  unfolding counts_reply
  counts_go_on e = rw e

  -- the counts, then the lists
  in_two : (a : Read (Unit {0})) (b c : Unit {0} → Read (Unit {0})) → ((a then b) then c) ≡ (a then λ u. b u then c)
  in_two (refused r) b c = refl
  in_two (read u) b c = refl

  lines_are : lines_reply d ≡ (counts_reply d then λ _. lists_reply d)
  unfolding lines_reply counts_reply lists_reply
  lines_are = sym (in_two (in_turn 3 (header_reply d)) (λ _. numbers_reply d (counts_place d)) (λ _. lists_reply d))

  pub lines_no_counts : (r : Refusal) → counts_reply d ≡ refused r → lines_reply d ≡ refused r
  lines_no_counts r e = lines_are ∙ rw e

  pub lines_go_on : counts_reply d ≡ read tt → lines_reply d ≡ lists_reply d
  lines_go_on e = lines_are ∙ rw e

  pub lists_no_atom : (r : Refusal) → in_turn (atom_line_count d) (atom_reply d) ≡ refused r → lists_reply d ≡ refused r
  unfolding lists_reply
  lists_no_atom r e = rw e

  pub lists_go_on : in_turn (atom_line_count d) (atom_reply d) ≡ read tt → lists_reply d ≡ rest_reply d
  unfolding lists_reply rest_reply
  lists_go_on e = rw e

  pub rest_no_bond : (r : Refusal) → in_turn (bond_line_count d) (bond_reply_of d) ≡ refused r → rest_reply d ≡ refused r
  unfolding rest_reply
  rest_no_bond r e = rw e

  module _ (e : in_turn (bond_line_count d) (bond_reply_of d) ≡ read tt) where
    pub rest_ended : line_starts end_word true (drop (rest_place d) d) ≡ true → rest_reply d ≡ read tt
    unfolding rest_reply end_line_reply
    rest_ended f = rw (e, f)

    pub rest_no_end : line_starts end_word true (drop (rest_place d) d) ≡ false → rest_reply d ≡ refused (refusal 25 (length d))
    unfolding rest_reply end_line_reply
    rest_no_end f = rw (e, f)

  -- what the lists tell
  pub lists_there : lists_reply d ≡ read tt → (in_turn (atom_line_count d) (atom_reply d) ≡ read tt) × (in_turn (bond_line_count d) (bond_reply_of d) ≡ read tt)
  unfolding lists_reply
  lists_there e =
      let (u, a, b) = then-read (in_turn (atom_line_count d) (atom_reply d)) (λ _. in_turn (bond_line_count d) (bond_reply_of d) then λ _. end_line_reply d (rest_place d)) e in
      let (v, f, g) = then-read (in_turn (bond_line_count d) (bond_reply_of d)) (λ _. end_line_reply d (rest_place d)) b in
      (a, f)

  -- the counts are below 1000
  pub counts_few : counts_reply d ≡ read tt → (atom_line_count d ≤ most) × (bond_line_count d ≤ most)
  unfolding counts_reply numbers_reply
  counts_few e =
      let p = counts_place d in
      let (u, a, b) = then-read (in_turn 3 (header_reply d)) (λ _. numbers_reply d p) e in
      let (v, f, g) = then-read (line_reply 6 d p) (λ _. refuse_if (not (is_number (three_at d p)) || not (is_number (three_at d (p + 3)))) 26 p) b in
      let n = neither (not (is_number (three_at d p))) (not (is_number (three_at d (p + 3)))) (if_read (not (is_number (three_at d p)) || not (is_number (three_at d (p + 3)))) 26 p g) in
      let x = three_below (character_at d p) (character_at d (p + 1)) (character_at d (p + 2)) (not-false (is_number (three_at d p)) n.0) in
      let y = three_below (character_at d (p + 3)) (character_at d (p + 3 + 1)) (character_at d (p + 3 + 2)) (not-false (is_number (three_at d (p + 3))) n.1) in
      (omega arith, omega arith)

  -- where the lines are read, so are the counts and the lists
  pub lines_parts : lines_reply d ≡ read tt → (counts_reply d ≡ read tt) × (lists_reply d ≡ read tt)
  lines_parts e = let (u, a, b) = then-read (counts_reply d) (λ _. lists_reply d) (sym lines_are ∙ e) in (a, b)

-- what is learnt of k lines, where k is the count of the definition
pub ends_learnt : (d : List ℕ) {k n : ℕ} {ones twos : List ℕ} → k ≡ n → (in_turn k (bond_reply_of d) ≡ read tt → Ends d k ones twos) → in_turn n (bond_reply_of d) ≡ read tt → Ends d n ones twos
ends_learnt d e h = rw (← e) h

pub marks_learnt : (d : List ℕ) {k n : ℕ} {marks : List ℕ} → k ≡ n → (in_turn k (atom_reply d) ≡ read tt → Marks d k marks) → in_turn n (atom_reply d) ≡ read tt → Marks d n marks
marks_learnt d e h = rw (← e) h
