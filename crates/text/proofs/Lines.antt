-- Laws. Where a line ends. Assumes nothing.
use Prim.Native.Nat.{ℕ, zero, suc, ◌+◌, ◌-◌, ◌<◌, ◌≤◌, min}
use mathlib.Core.Bool.{Bool, true, false, cond}
use mathlib.Core.List.{List}
use mathlib.Core.Path.{◌≡◌, refl, ◌∙◌, ap}
use native.Mathlib.Omega.{arith}
use native.Mathlib.Numerals.{add-one}
use borrow.Author.Tests.{eq-eqb, ne_eqb, lt-ltb, le-ltb, eqb-false}
use borrow.Author.Count.{below_more}
use lib.Dec.{eqb}
use lib.ListN.{length, get_or, drop_of_length-le}
use lib.Seq.{drop-cons}
use Rattle.text.specs.Text.{feed, carriage, character_at, until_feed, line_end, has_carriage, line_chars, next_line}
use Rattle.text.specs.Said.{line_at}
use Rattle.text.specs.Clear.{Clear}
use Rattle.text.specs.declared.Line.{Line}

module _ (d : List ℕ) (at : ℕ) where
  pub end_past : length d ≤ at → line_end d at ≡ at
  unfolding line_end until_feed
  end_past h = rw (drop_of_length-le d h) (omega arith)

  module _ (h : at < length d) where
    pub end_here : get_or d at 0 ≡ feed → line_end d at ≡ at
    unfolding line_end until_feed
    end_here e = rw (drop-cons d at 0 h, eq-eqb (get_or d at 0) feed e) (omega arith)

    pub end_later : (get_or d at 0 ≡ feed → ⊥) → line_end d at ≡ line_end d (at + 1)
    unfolding line_end until_feed
    end_later e = rw (add-one at, drop-cons d at 0 h, ne_eqb (get_or d at 0) feed e) (omega arith)

  pub end_from : at ≤ line_end d at
  unfolding line_end
  end_from = omega arith

line : (a b : ℕ) (n m : ℕ) → a ≡ n → b ≡ m → ◌≡◌ {A = Line} (record { chars = a; next = b }) (record { chars = n; next = m })
line a b n m p q = rw (p, q)

-- the line at a place, test by test; e is where it ends
module _ (d : List ℕ) (at e : ℕ) (is : e ≡ line_end d at) where
  pub line_last : length d ≤ e → record { chars = e - at; next = length d } ≡ line_at d at
  unfolding line_at line_chars has_carriage next_line
  line_last h = let f = le-ltb e (length d) h in rw (← is, f) (line (e - at) (length d) (e - at - 0) (min (e + 1) (length d)) (omega arith) (omega arith))

  module _ (h : e < length d) where
    pub line_empty : e - at ≡ 0 → record { chars = e - at; next = e + 1 } ≡ line_at d at
    unfolding line_at line_chars has_carriage next_line
    line_empty z =
        rw (← is, lt-ltb e (length d) h, le-ltb at e (omega arith))
        (line (e - at) (e + 1) (e - at - 0) (min (e + 1) (length d)) (omega arith) (omega arith))

    module _ (z : e - at ≡ 0 → ⊥) where
      pub line_carriage : character_at d (e - 1) ≡ carriage → record { chars = e - at - 1; next = e + 1 } ≡ line_at d at
      unfolding line_at line_chars has_carriage next_line
      line_carriage c =
          rw (← is, lt-ltb e (length d) h, lt-ltb at e (omega arith), eq-eqb (character_at d (e - 1)) carriage c)
          (line (e - at - 1) (e + 1) (e - at - 1) (min (e + 1) (length d)) refl (omega arith))

      pub line_plain : (character_at d (e - 1) ≡ carriage → ⊥) → record { chars = e - at; next = e + 1 } ≡ line_at d at
      unfolding line_at line_chars has_carriage next_line
      line_plain c =
          rw (← is, lt-ltb e (length d) h, lt-ltb at e (omega arith), ne_eqb (character_at d (e - 1)) carriage c)
          (line (e - at) (e + 1) (e - at - 0) (min (e + 1) (length d)) (omega arith) (omega arith))

-- a line goes on past bytes none of which is a line feed
pub end_clear : (d : List ℕ) (at n : ℕ) → at + n ≤ length d → Clear d at n → line_end d at ≡ line_end d (at + n)
end_clear d at zero h c = let e : at + 0 ≡ at = omega arith in rw e
end_clear d at (suc n) h c =
    let e : at + suc n ≡ at + n + 1 = omega arith in
    rw e (end_clear d at n (omega arith) (record { none = λ k l. c.none k (omega arith) }) ∙ end_later d (at + n) (omega arith) (c.none n (omega arith)))

pub clear_more : (d : List ℕ) (at k n v : ℕ) → v ≡ cond (eqb (get_or d (at + k) 0) feed) 1 0 → (n ≡ 0 → Clear d at k) → n + v ≡ 0 → Clear d at (k + 1)
clear_more d at k n v e h z = record { none = below_more (λ (j : ℕ). get_or d (at + j) 0 ≡ feed → ⊥) k (h (omega arith)).none (go (eqb (get_or d (at + k) 0) feed) refl) }
  where
    go : (t : Bool) → eqb (get_or d (at + k) 0) feed ≡ t → get_or d (at + k) 0 ≡ feed → ⊥
    go true p q = omega (arith, e ∙ ap (λ (t : Bool). cond t 1 0) p)
    go false p q = eqb-false (get_or d (at + k) 0) feed p q

pub one_feed : (b : ℕ) → cond (eqb b feed) 1 0 ≤ 1
one_feed b = go (eqb b feed)
  where
    go : (t : Bool) → cond t 1 0 ≤ 1
    go true = omega arith
    go false = omega arith
