-- Laws. Lines that begin with two numbers of three characters. Assumes nothing.
use Rattle.std.specs.Prelude.{ℕ, ◌+◌, ◌/◌, ◌≤◌, Bool, true, false, cond, List, ◌++◌, ◌≡◌, refl, eqb, ltb, length}
use Rattle.std.proofs.Common.{◌∙◌, ne_eqb}
use Rattle.std.proofs.Math.Path.{ap}
use native.Mathlib.Omega.{arith}
use Rattle.std.proofs.Math.ListN.{get_or}
use Rattle.text.specs.Text.{feed, carriage, blank, character_at, three_at, shown, three}
use Rattle.molwriter.specs.Unlines.{is_plain, LineOf}

not_feed : (t : Bool) (x : ℕ) → eqb (cond t blank (shown x)) feed ≡ false
not_feed true x = refl
not_feed false x = ne_eqb (shown x) feed (λ z. omega arith)

not_carriage : (t : Bool) (x : ℕ) → eqb (cond t blank (shown x)) carriage ≡ false
not_carriage true x = refl
not_carriage false x = ne_eqb (shown x) carriage (λ z. omega arith)

pub three_plain : (n : ℕ) (rest : List ℕ) → is_plain rest ≡ true → is_plain (three n ++ rest) ≡ true
unfolding three is_plain
three_plain n rest p =
    rw (not_feed (ltb n 100) (n / 100), not_carriage (ltb n 100) (n / 100), not_feed (ltb n 10) (n / 10), not_carriage (ltb n 10) (n / 10), not_feed false n, not_carriage false n) p

-- a line that begins with two numbers
module _ (d : List ℕ) (at a b : ℕ) (rest : List ℕ) (l : LineOf d at (three a ++ (three b ++ rest))) where
  pub first_three : three_at d at ≡ three a
  unfolding three
  first_three =
      let e : at ≡ at + 0 = omega arith in
      let x : character_at d at ≡ get_or (three a ++ (three b ++ rest)) 0 0 = ap (character_at d) e ∙ l.bytes 0 (omega arith) in
      rw (x, l.bytes 1 (omega arith), l.bytes 2 (omega arith))

  pub second_three : three_at d (at + 3) ≡ three b
  unfolding three
  second_three =
      let e : at + 3 + 1 ≡ at + 4 = omega arith in
      let f : at + 3 + 2 ≡ at + 5 = omega arith in
      rw (e, f, l.bytes 3 (omega arith), l.bytes 4 (omega arith), l.bytes 5 (omega arith))

  pub six : 6 ≤ length (three a ++ (three b ++ rest))
  unfolding three
  six = omega arith
