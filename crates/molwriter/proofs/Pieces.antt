-- Laws. The pieces of the text one after the other. Assumes nothing.
use Prim.Native.Nat.{ℕ, zero, suc, ◌+◌, ◌*◌, ◌<◌}
use mathlib.Core.List.{List, [], ◌∷◌, ◌++◌, append_assoc, append-nil}
use mathlib.Core.Path.{◌≡◌, refl, sym, ◌∙◌, ap}
use native.Mathlib.Omega.{arith}
use native.Mathlib.Numerals.{add-one}
use lib.ListN.{length, get_or, drop, length-drop}
use lib.Seq.{drop-cons}
use Rattle.graph.specs.Graph.{Bond, bond}
use Rattle.block.specs.Block.{bonds_of}
use Rattle.text.specs.Text.{ascii, three}
use Rattle.molwriter.specs.Pieces.{counts_text, atom_text, atoms_text, bond_text, bonds_text}

pub counts_is : (n m : ℕ) → ascii "\n\n\n" ++ three n ++ three m ++ ascii "  0  0  0  0  0  0  0  0999 V2000\n" ≡ ascii "\n\n\n" ++ counts_text n m
unfolding counts_text
counts_is n m = ap (λ (xs : List ℕ). xs ++ ascii "  0  0  0  0  0  0  0  0999 V2000\n") (append_assoc (ascii "\n\n\n") (three n) (three m)) ∙ append_assoc (ascii "\n\n\n") (three n ++ three m) (ascii "  0  0  0  0  0  0  0  0999 V2000\n")

pub bond_is : (a b : ℕ) → three a ++ three b ++ ascii "  1  0  0  0  0\n" ≡ bond_text (bond a b)
unfolding bond_text
bond_is a b = refl

-- lines one after the other
pub atoms_none : [] ≡ atoms_text 0
unfolding atoms_text
atoms_none = refl

pub atoms_more : (i : ℕ) → atoms_text i ++ ascii "    0.0000    0.0000    0.0000 C   0  0  0  0  0  0  0  0  0  0  0  0\n" ≡ atoms_text (i + 1)
unfolding atoms_text atom_text
atoms_more zero = refl
atoms_more (suc i) = append_assoc atom_text (atoms_text i) atom_text ∙ ap (λ (xs : List ℕ). atom_text ++ xs) (atoms_more i) ∙ rw (add-one i, add-one (suc i))

bonds_append : (cs bs : List Bond) → bonds_text (cs ++ bs) ≡ bonds_text cs ++ bonds_text bs
unfolding bonds_text
bonds_append [] bs = refl
bonds_append (a ∷ cs) bs = ap (λ (xs : List ℕ). bond_text a ++ xs) (bonds_append cs bs) ∙ sym (append_assoc (bond_text a) (bonds_text cs) (bonds_text bs))

pub bonds_none : [] ≡ bonds_text []
unfolding bonds_text
bonds_none = refl

pub bonds_more : (cs : List Bond) (b : Bond) → bonds_text cs ++ bond_text b ≡ bonds_text (cs ++ (b ∷ []))
unfolding bonds_text
bonds_more cs b = sym (bonds_append cs (b ∷ []) ∙ ap (λ (xs : List ℕ). bonds_text cs ++ xs) (append-nil (bond_text b)))

module _ (xs : List ℕ) (k : ℕ) where
  rest_more : 2 * k + 1 < length xs → bonds_of (drop (2 * k) xs) ≡ bond (get_or xs (2 * k) 0) (get_or xs (2 * k + 1) 0) ∷ bonds_of (drop (2 * (k + 1)) xs)
  unfolding bonds_of
  rest_more h =
      let e : 2 * (k + 1) ≡ suc (suc (2 * k)) = omega arith in
      let l : suc (2 * k) < length xs = omega arith in
      rw (e, add-one (2 * k), drop-cons xs (2 * k) 0 (omega arith), drop-cons xs (suc (2 * k)) 0 l)

  -- one bond more is written
  pub done_more : (done : List Bond) → 2 * k + 1 < length xs → done ++ bonds_of (drop (2 * k) xs) ≡ bonds_of xs
      → (done ++ (bond (get_or xs (2 * k) 0) (get_or xs (2 * k + 1) 0) ∷ [])) ++ bonds_of (drop (2 * (k + 1)) xs) ≡ bonds_of xs
  done_more done h e = append_assoc done (bond (get_or xs (2 * k) 0) (get_or xs (2 * k + 1) 0) ∷ []) (bonds_of (drop (2 * (k + 1)) xs)) ∙ ap (λ (bs : List Bond). done ++ bs) (sym (rest_more h)) ∙ e

  short : (ys : List ℕ) → length ys < 2 → bonds_of ys ≡ []
  unfolding bonds_of
  short [] h = refl
  short (y ∷ []) h = refl
  short (y ∷ (z ∷ ys)) h = absurd (omega arith)

  pub all_done : (done : List Bond) → length xs < 2 * k + 2 → done ++ bonds_of (drop (2 * k) xs) ≡ bonds_of xs → done ≡ bonds_of xs
  all_done done h e = sym (append-nil done) ∙ ap (λ (bs : List Bond). done ++ bs) (sym (short (drop (2 * k) xs) (omega (arith, length-drop (2 * k) xs)))) ∙ e
