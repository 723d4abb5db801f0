-- Laws. A line that is due, and the numbers it begins with, test by test. Assumes nothing.
use Prim.Native.Nat.{ℕ, ◌+◌, ◌<◌, ◌≤◌}
use mathlib.Core.Bool.{true, false, ◌||◌}
use mathlib.Core.List.{List}
use mathlib.Core.Path.{◌≡◌, refl}
use native.Mathlib.Omega.{arith}
use borrow.Author.Tests.{le-leb, lt-leb, lt-ltb, le-ltb, leb-false, ltb-false}
use lib.Dec.{leb, ltb}
use lib.ListN.{length}
use Rattle.reply.specs.Read.{refused, read, refusal, refuse_if, is_outside}
use Rattle.reply.specs.Chain.{then-read, if_read, neither}
use Rattle.block.specs.Faults.{inside}
use Rattle.graph.specs.Graph.{Within}
use Rattle.reply.specs.declared.Refusal.{Refusal}
use Rattle.text.specs.Text.{is_number, three_at, line_chars}
use Rattle.text.specs.Laws.{chars_within}
use Rattle.molfile.specs.Molfile.{bond_line_place, ends_of_line, bond_of_line, line_reply, numbers_reply, bond_reply}

module _ (least : ℕ) (d : List ℕ) (at : ℕ) where
  pub line_missing : length d ≤ at → line_reply least d at ≡ refused (refusal 25 (length d))
  unfolding line_reply
  line_missing h = rw (le-leb (length d) at h)

  pub line_short : at < length d → line_chars d at < least → line_reply least d at ≡ refused (refusal 25 at)
  unfolding line_reply
  line_short h l = rw (lt-leb (length d) at h, lt-ltb (line_chars d at) least l)

  pub line_long : at < length d → least ≤ line_chars d at → line_reply least d at ≡ read tt
  unfolding line_reply
  line_long h l = rw (lt-leb (length d) at h, le-ltb (line_chars d at) least l)

  -- a line that is there lies within the file
  pub line_there : line_reply least d at ≡ read tt → (at < length d) × (least ≤ line_chars d at) × (at + line_chars d at ≤ length d)
  unfolding line_reply
  line_there e =
      let (u, a, b) = then-read (refuse_if (leb (length d) at) 25 (length d)) (λ _. refuse_if (ltb (line_chars d at) least) 25 at) e in
      let h = leb-false (length d) at (if_read (leb (length d) at) 25 (length d) a) in
      (h, ltb-false (line_chars d at) least (if_read (ltb (line_chars d at) least) 25 at b), chars_within d at (omega arith))

-- a line that begins with two numbers
module _ (d : List ℕ) (at : ℕ) where
  pub numbers_no_line : (r : Refusal) → line_reply 6 d at ≡ refused r → numbers_reply d at ≡ refused r
  unfolding numbers_reply
  numbers_no_line r e = rw e

  module _ (e : line_reply 6 d at ≡ read tt) where
    pub numbers_first : is_number (three_at d at) ≡ false → numbers_reply d at ≡ refused (refusal 26 at)
    unfolding numbers_reply
    numbers_first f = rw (e, f)

    module _ (f : is_number (three_at d at) ≡ true) where
      pub numbers_second : is_number (three_at d (at + 3)) ≡ false → numbers_reply d at ≡ refused (refusal 26 at)
      unfolding numbers_reply
      numbers_second g = rw (e, f, g)

      pub numbers_both : is_number (three_at d (at + 3)) ≡ true → numbers_reply d at ≡ read tt
      unfolding numbers_reply
      numbers_both g = rw (e, f, g)

-- a bond line
module _ (n : ℕ) (d : List ℕ) (at : ℕ) where
  pub bond_no_numbers : (r : Refusal) → numbers_reply d at ≡ refused r → bond_reply n d at ≡ refused r
  unfolding bond_reply
  bond_no_numbers r e = rw e

  module _ (e : numbers_reply d at ≡ read tt) where
    pub bond_outside : (is_outside n (ends_of_line d at).one || is_outside n (ends_of_line d at).two) ≡ true → bond_reply n d at ≡ refused (refusal 27 at)
    unfolding bond_reply
    bond_outside f = rw (e, f)

    pub bond_inside : (is_outside n (ends_of_line d at).one || is_outside n (ends_of_line d at).two) ≡ false → bond_reply n d at ≡ read tt
    unfolding bond_reply
    bond_inside f = rw (e, f)

  -- the ends of a bond line that is read are atoms
  pub bond_within : bond_reply n d at ≡ read tt → Within n (ends_of_line d at).one × Within n (ends_of_line d at).two
  unfolding bond_reply
  bond_within e =
      let one = is_outside n (ends_of_line d at).one in
      let two = is_outside n (ends_of_line d at).two in
      let (u, a, b) = then-read (numbers_reply d at) (λ _. refuse_if (one || two) 27 at) e in
      let f = neither one two (if_read (one || two) 27 at b) in
      (inside n (ends_of_line d at).one f.0, inside n (ends_of_line d at).two f.1)

pub bond_is : (d : List ℕ) (k : ℕ) → bond_of_line d k ≡ ends_of_line d (bond_line_place d k)
unfolding bond_of_line
bond_is d k = refl
