-- Laws. One H and otherwise blanks, test by test. Assumes nothing.
use Prim.Native.Nat.{ℕ}
use mathlib.Core.Bool.{Bool, true, false, ◌||◌}
use mathlib.Core.Path.{◌≡◌, refl}
use native.Mathlib.Omega.{arith}
use borrow.Author.Tests.{eqb-true, ne_eqb}
use Rattle.text.specs.Text.{is_blank}
use Rattle.molfile.specs.Molfile.{is_h, one_h}

h_not_blank : (b : ℕ) → is_h b ≡ true → is_blank b ≡ false
h_not_blank b e = let f : b ≡ 72 = eqb-true b 72 e in ne_eqb b 32 (λ z. omega arith)

blank_not_h : (b : ℕ) → is_blank b ≡ true → is_h b ≡ false
blank_not_h b e = let f : b ≡ 32 = eqb-true b 32 e in ne_eqb b 72 (λ z. omega arith)

or_none : (x : Bool) → (x || false) ≡ x
or_none true = refl
or_none false = refl

module _ (a b c : ℕ) where
  module _ (h : is_h a ≡ true) where
    pub h_first : is_blank b ≡ true → one_h a b c ≡ is_blank c
    unfolding one_h
    h_first e = rw (h, h_not_blank a h, e, or_none (is_blank c), or_none (is_blank c))

    pub h_then : is_blank b ≡ false → one_h a b c ≡ false
    unfolding one_h
    h_then e = rw (h, h_not_blank a h, e)

  module _ (h : is_blank a ≡ true) where
    pub h_second : is_h b ≡ true → one_h a b c ≡ is_blank c
    unfolding one_h
    h_second e = rw (blank_not_h a h, h, e, h_not_blank b e, or_none (is_blank c))

    pub h_third : is_h b ≡ false → is_blank b ≡ true → one_h a b c ≡ is_h c
    unfolding one_h
    h_third e f = rw (blank_not_h a h, h, e, f)

    pub h_no_third : is_h b ≡ false → is_blank b ≡ false → one_h a b c ≡ false
    unfolding one_h
    h_no_third e f = rw (blank_not_h a h, h, e, f)

  pub h_none : is_h a ≡ false → is_blank a ≡ false → one_h a b c ≡ false
  unfolding one_h
  h_none e f = rw (e, f)
