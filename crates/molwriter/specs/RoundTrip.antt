-- Laws. What is written reads back as the same block. Assumes nothing.
use Prim.Native.Nat.{ℕ, zero, suc, ◌+◌, ◌*◌, ◌%◌, ◌<◌, ◌≤◌}
use Rattle.std.specs.Prelude.{Bool, false, ◌||◌, not, ◌≡◌, eqb, ltb, length, get_or, take, drop}
use mathlib.Core.List.{List, [], ◌∷◌, ◌++◌, append_assoc}
use Rattle.std.proofs.Math.Path.{refl, ap}
use Rattle.std.proofs.Common.{sym, ◌∙◌, ne_eqb, le-ltb, eqb-true, take_all}
use native.Mathlib.Omega.{arith}
use Rattle.std.proofs.Math.Numerals.{add-one}
use Rattle.std.proofs.lemmas.Bool.{not-false}
use Rattle.std.proofs.Math.Seq.{take-suc, take-append_seam}
use Rattle.graph.specs.Graph.{Bond, bond, Within}
use Rattle.reply.specs.Read.{Read, read, ◌then◌, refuse_if, refuse_for, is_outside}
use Rattle.reply.specs.Chain.{then-read, for_read, neither}
use Rattle.block.specs.Faults.{faultless}
use Rattle.block.specs.Block.{most_bytes, bonds_of, bond_fault, bonds_reply, block_reply}
use Rattle.block.specs.Numbered.{few_bytes}
use Rattle.block.specs.Told.{passed, few_atoms}
use Rattle.text.specs.Text.{ascii, three, is_number, number_of, three_at, line_chars, later_line, starts_with, line_starts}
use Rattle.molfile.specs.Molfile.{counts_place, atom_line_place, atom_line_count, bond_line_count, bond_line_place, rest_place, ends_of_line, bond_of_line, symbol_at, hydrogen_at, in_turn, numbers_reply, end_line_reply, header_reply, atom_reply, bond_reply_of, lines_reply, hydrogen_in, passing_below, is_dropped, new_number, kept_bytes, kept_atoms, bytes_of, file_reply, molfile_reply}
use Rattle.molfile.proofs.Lines.{line_long, numbers_both, bond_inside, bond_is}
use Rattle.molfile.proofs.Symbols.{h_none}
use Rattle.text.proofs.Written.{three_back}
use Rattle.molwriter.specs.Written.{counts_line, atom_line, bond_line, end_line, molfile_lines, unlines, molfile_text, molfile_write_reply, written_bytes}
use Rattle.molwriter.specs.Length.{half_length}
use Rattle.molwriter.specs.Replies.{fills}
use Rattle.molwriter.specs.Unlines.{LineOf, line_later, rest_later, later_later}
use Rattle.molwriter.specs.Threes.{first_three, second_three, six}
use Rattle.molwriter.specs.Listing.{lines_plain, lines_count, lines_atom, lines_bond, lines_rest}

all_turns : (f : ℕ → Read (Unit {0})) (n : ℕ) → ((k : ℕ) → k < n → f k ≡ read tt) → in_turn n f ≡ read tt
unfolding in_turn
all_turns f zero h = refl
all_turns f (suc n) h = rw (all_turns f n (λ k l. h k (omega arith)), h n (omega arith))

abbrev pub no_bond : Bond
no_bond = bond 0 0

inside_not : (n v : ℕ) → Within n v → is_outside n v ≡ false
inside_not n v w = rw (ne_eqb v 0 (λ z. omega arith), le-ltb n v w.high)

neither_out : (k n : ℕ) (x b : Bond) → k ≡ n → x ≡ b → Within n b.one → Within n b.two → (is_outside k x.one || is_outside k x.two) ≡ false
neither_out k n x b e f v w = rw (e, f, inside_not n b.one v, inside_not n b.two w)

-- a line that begins with two numbers below 1000
module _ (d : List ℕ) (at a b : ℕ) (rest : List ℕ) (l : LineOf d at (three a ++ (three b ++ rest))) (la : a < 1000) (lb : b < 1000) where
  pub two_numbers : numbers_reply d at ≡ read tt
  two_numbers =
      let s : 6 ≤ line_chars d at = omega (arith, l.chars, six d at a b rest l) in
      numbers_both d at (line_long 6 d at l.there s) (ap is_number (first_three d at a b rest l) ∙ (three_back a la).0) (ap is_number (second_three d at a b rest l) ∙ (three_back b lb).0)

  pub number_one : number_of (three_at d at) ≡ a
  number_one = ap number_of (first_three d at a b rest l) ∙ (three_back a la).1

  pub number_two : number_of (three_at d (at + 3)) ≡ b
  number_two = ap number_of (second_three d at a b rest l) ∙ (three_back b lb).1

module _ (n : ℕ) (bs : List Bond) (ln : n < 1000) (lm : length bs < 1000) where
  abbrev d : List ℕ
  d = unlines (molfile_lines n bs)

  line_k : (k : ℕ) → k < 5 + n + length bs → LineOf d (later_line d 0 k) (get_or (molfile_lines n bs) k [])
  line_k k h = line_later (molfile_lines n bs) k (lines_plain n bs) (omega (arith, lines_count n bs))

  counts_line_lem : LineOf d (counts_place d) (three n ++ (three (length bs) ++ (ascii "  0  0  0  0  0  0  0  0999 V2000")))
  unfolding molfile_lines counts_line
  counts_line_lem = line_k 3 (omega arith)

  pub atoms_are : atom_line_count d ≡ n
  atoms_are = number_one d (counts_place d) n (length bs) (ascii "  0  0  0  0  0  0  0  0999 V2000") counts_line_lem ln lm

  pub bonds_are : bond_line_count d ≡ length bs
  bonds_are = number_two d (counts_place d) n (length bs) (ascii "  0  0  0  0  0  0  0  0999 V2000") counts_line_lem ln lm

  header_fine : in_turn 3 (header_reply d) ≡ read tt
  header_fine = all_turns (header_reply d) 3 (λ k h. line_long 0 d (later_line d 0 k) (line_k k (omega arith)).there (omega arith))

  atom_line_lem : (i : ℕ) → i < n → LineOf d (atom_line_place d i) atom_line
  atom_line_lem i h = rw (lines_atom n i bs h) at (line_k (4 + i) (omega arith))

  atom_long : (at : ℕ) → LineOf d at atom_line → line_chars d at ≡ 69
  unfolding atom_line
  atom_long at l = l.chars

  atoms_fine : in_turn (atom_line_count d) (atom_reply d) ≡ read tt
  atoms_fine = rw atoms_are (all_turns (atom_reply d) n (λ i h. let l = atom_line_lem i h in line_long 32 d (atom_line_place d i) l.there (omega (arith, atom_long (atom_line_place d i) l))))

  carbon : (at : ℕ) → LineOf d at atom_line → symbol_at d at 0 ≡ 67
  unfolding symbol_at atom_line
  carbon at l =
      let e : at + 31 + 0 ≡ at + 31 = omega arith in
      rw (atom_long at l, e) (l.bytes 31 (omega arith))

  pub no_hydrogen : (i : ℕ) → i < n → hydrogen_at d (atom_line_place d i) ≡ false
  unfolding hydrogen_at
  no_hydrogen i h =
      let at = atom_line_place d i in
      rw (carbon at (atom_line_lem i h)) (h_none 67 (symbol_at d at 1) (symbol_at d at 2) refl refl)

  bond_begins : (k : ℕ) → bond_line_place d k ≡ later_line d 0 (4 + n + k)
  bond_begins k = rw atoms_are (later_later d 0 (4 + n) k)

  bond_line_lem : (k : ℕ) → k < length bs → LineOf d (bond_line_place d k) (three (get_or bs k no_bond).one ++ (three (get_or bs k no_bond).two ++ (ascii "  1  0  0  0  0")))
  unfolding bond_line
  bond_line_lem k h = rw (bond_begins k) (rw (lines_bond n k bs h) at (line_k (4 + n + k) (omega arith)))

  module _ (within : (k : ℕ) → k < length bs → Within n (get_or bs k no_bond).one × Within n (get_or bs k no_bond).two) where
    pub bond_here : (k : ℕ) → k < length bs → bond_of_line d k ≡ get_or bs k no_bond
    bond_here k h =
        let w = within k h in
        let b = get_or bs k no_bond in
        let p = bond_line_place d k in
        bond_is d k ∙ rw (number_one d p b.one b.two (ascii "  1  0  0  0  0") (bond_line_lem k h) (omega arith) (omega arith), number_two d p b.one b.two (ascii "  1  0  0  0  0") (bond_line_lem k h) (omega arith) (omega arith))

    bonds_fine : in_turn (bond_line_count d) (bond_reply_of d) ≡ read tt
    bonds_fine = rw bonds_are (all_turns (bond_reply_of d) (length bs) (λ k h. one k h (within k h) (bond_here k h)))
      where
        one : (k : ℕ) → k < length bs → Within n (get_or bs k no_bond).one × Within n (get_or bs k no_bond).two → bond_of_line d k ≡ get_or bs k no_bond → bond_reply_of d k ≡ read tt
        one k h w e =
            let b = get_or bs k no_bond in
            let p = bond_line_place d k in
            let f = sym (bond_is d k) ∙ e in
            let o = neither_out (atom_line_count d) n (ends_of_line d p) b atoms_are f w.0 w.1 in
            bond_inside (atom_line_count d) d p (two_numbers d p b.one b.two (ascii "  1  0  0  0  0") (bond_line_lem k h) (omega arith) (omega arith)) o

    rest_is : drop (rest_place d) d ≡ unlines (end_line ∷ [])
    rest_is =
        ap (λ (p : ℕ). drop p d) (ap (bond_line_place d) bonds_are ∙ bond_begins (length bs))
        ∙ rest_later (molfile_lines n bs) (4 + n + length bs) (lines_plain n bs) (omega (arith, lines_count n bs))
        ∙ ap unlines (lines_rest n bs)

    end_fine : end_line_reply d (rest_place d) ≡ read tt
    unfolding end_line_reply line_starts starts_with unlines end_line
    end_fine = rw rest_is

    pub lines_fine : lines_reply d ≡ read tt
    unfolding lines_reply
    lines_fine = rw (header_fine, two_numbers d (counts_place d) n (length bs) (ascii "  0  0  0  0  0  0  0  0999 V2000") counts_line_lem ln lm, atoms_fine, bonds_fine) end_fine

-- the bonds of a block that is not refused join atoms of 1 to n
bonds_within : (n : ℕ) (before bs : List Bond) → bonds_reply n before bs ≡ read tt → (k : ℕ) → k < length bs → Within n (get_or bs k no_bond).one × Within n (get_or bs k no_bond).two
unfolding bonds_reply
bonds_within n before [] e k h = absurd (omega arith)
bonds_within n before (b ∷ bs) e k h =
    let (u, f, r) = then-read (refuse_for (bond_fault n before b) (suc (length before))) (λ _. bonds_reply n (b ∷ before) bs) e in
    let w = faultless n before b (for_read (bond_fault n before b) (suc (length before)) f) in
    go k h w.one w.two (bonds_within n (b ∷ before) bs r)
  where
    go : (k : ℕ) → k < length (b ∷ bs) → Within n b.one → Within n b.two → ((j : ℕ) → j < length bs → Within n (get_or bs j no_bond).one × Within n (get_or bs j no_bond).two)
        → Within n (get_or (b ∷ bs) k no_bond).one × Within n (get_or (b ∷ bs) k no_bond).two
    go zero l v w ih = (v, w)
    go (suc k) l v w ih = ih k (omega arith)

-- a bond by its bytes
bond_bytes : (xs : List ℕ) (k : ℕ) → 2 * k + 1 < length xs → get_or (bonds_of xs) k no_bond ≡ bond (get_or xs (2 * k) 0) (get_or xs (2 * k + 1) 0)
unfolding bonds_of
bond_bytes [] k h = absurd (omega arith)
bond_bytes (a ∷ []) k h = absurd (omega arith)
bond_bytes (a ∷ (b ∷ xs)) zero h = refl
bond_bytes (a ∷ (b ∷ xs)) (suc k) h =
    let e : 2 * suc k ≡ suc (suc (2 * k)) = omega arith in
    let f : suc (suc (2 * k)) + 1 ≡ suc (suc (2 * k + 1)) = omega arith in
    rw (e, f) (bond_bytes xs k (omega arith))

-- where no atom is a hydrogen, none is dropped, and the numbers stay
module _ (h : ℕ → Bool) (f : ℕ → Bond) (n m : ℕ) (none : (i : ℕ) → i < n → h (suc i) ≡ false) where
  none_dropped : (i : ℕ) → i < n → is_dropped h f m (suc i) ≡ false
  unfolding is_dropped
  none_dropped i l = rw (none i l)

  same_number : (i : ℕ) → i ≤ n → new_number (is_dropped h f m) i ≡ i
  unfolding passing_below
  same_number zero l = refl
  same_number (suc i) l = rw (none_dropped i l, same_number i (omega arith)) (omega arith)

  same_end : (v : ℕ) → Within n v → (is_dropped h f m v ≡ false) × (new_number (is_dropped h f m) v ≡ v)
  same_end zero w = absurd (omega arith)
  same_end (suc i) w = (none_dropped i w.high, same_number (suc i) w.high)

  same_bytes : (xs : List ℕ) → ((k : ℕ) → k < m → (f k ≡ bond (get_or xs (2 * k) 0) (get_or xs (2 * k + 1) 0)) × Within n (f k).one × Within n (f k).two) → 2 * m ≤ length xs
      → (k : ℕ) → k ≤ m → kept_bytes (is_dropped h f m) f k ≡ take (2 * k) xs
  unfolding kept_bytes
  same_bytes xs e long zero l = refl
  same_bytes xs e long (suc k) l =
      let b = e k l in
      let x = same_end (f k).one b.1 in
      let y = same_end (f k).two b.2 in
      let t : 2 * suc k ≡ suc (suc (2 * k)) = omega arith in
      let s = take-suc xs (suc (2 * k)) 0 (omega arith) ∙ ap (λ (ys : List ℕ). ys ++ (get_or xs (suc (2 * k)) 0 ∷ [])) (take-suc xs (2 * k) 0 (omega arith)) ∙ append_assoc (take (2 * k) xs) (get_or xs (2 * k) 0 ∷ []) (get_or xs (suc (2 * k)) 0 ∷ []) in
      rw (x.0, y.0, x.1, y.1, b.0, t, add-one (2 * k), same_bytes xs e long k (omega arith)) (sym s)

-- the block of a file
module _ (n : ℕ) (xs : List ℕ) (fine : block_reply n xs ≡ read tt) where
  few : (n < 1000) × (length (bonds_of xs) < 1000) × (2 * length (bonds_of xs) ≡ length xs)
  few =
      let w = (few_atoms n xs fine).high in
      let b = few_bytes n xs fine in
      let e = eqb-true (length xs % 2) 0 (not-false (eqb (length xs % 2) 0) (neither (not (eqb (length xs % 2) 0)) (ltb most_bytes (length xs)) (passed n xs fine).bytes).0) in
      (omega arith, omega (arith, half_length xs), omega (arith, half_length xs))

  within : (k : ℕ) → k < length (bonds_of xs) → Within n (get_or (bonds_of xs) k no_bond).one × Within n (get_or (bonds_of xs) k no_bond).two
  within = bonds_within n [] (bonds_of xs) (passed n xs fine).bonds

  abbrev lines : List ℕ
  lines = unlines (molfile_lines n (bonds_of xs))

  no_h : (i : ℕ) → i < n → hydrogen_in lines (suc i) ≡ false
  unfolding hydrogen_in
  no_h i h = no_hydrogen n (bonds_of xs) few.0 few.1 i h

  here : (k : ℕ) → k < length (bonds_of xs) → (bond_of_line lines k ≡ bond (get_or xs (2 * k) 0) (get_or xs (2 * k + 1) 0)) × Within n (bond_of_line lines k).one × Within n (bond_of_line lines k).two
  here k h =
      let e = bond_here n (bonds_of xs) few.0 few.1 within k h in
      let w = within k h in
      (e ∙ bond_bytes xs k (omega (arith, few.2)), rw e w.0, rw e w.1)

  lines_atoms : kept_atoms lines ≡ n
  lines_atoms = rw (atoms_are n (bonds_of xs) few.0 few.1) (same_number (hydrogen_in lines) (bond_of_line lines) n (bond_line_count lines) no_h n (omega arith))

  lines_bytes : bytes_of lines ≡ xs
  lines_bytes =
      rw (bonds_are n (bonds_of xs) few.0 few.1)
      (same_bytes (hydrogen_in lines) (bond_of_line lines) n (length (bonds_of xs)) no_h xs here (omega (arith, few.2)) (length (bonds_of xs)) (omega arith)
      ∙ take_all (2 * length (bonds_of xs)) xs (omega (arith, few.2)))

-- what is written for a block that is not refused reads back as the same atoms and the same bytes, and is refused only where too few bytes are lent
pub record ReadsBack (n : ℕ) (xs : List ℕ) (room : ℕ) (text : List ℕ) : Type 0 where
  pub atoms : kept_atoms text ≡ n
  pub bytes : bytes_of text ≡ xs
  pub reply : molfile_reply text room ≡ refuse_if (ltb room (length xs)) 9 0

pub reads_back : (n : ℕ) (xs : List ℕ) (room : ℕ) → block_reply n xs ≡ read tt → ReadsBack n xs room (molfile_text n (bonds_of xs))
unfolding file_reply molfile_text
reads_back n xs room fine =
    let f = few n xs fine in
    let a = lines_atoms n xs fine in
    let b = lines_bytes n xs fine in
    let l = lines_fine n (bonds_of xs) f.0 f.1 (within n xs fine) in
    record { atoms = a; bytes = b; reply = rw (l, a, b, fine) }

-- what `write` answers with a count: the block is fine, and that many bytes of the output are its text
wrote : (n : ℕ) (xs out : List ℕ) (k : ℕ) → molfile_write_reply n xs (length out) ≡ read k → (block_reply n xs ≡ read tt) × (take k (written_bytes n xs out) ≡ molfile_text n (bonds_of xs))
unfolding molfile_write_reply
wrote n xs out k e =
    let text = molfile_text n (bonds_of xs) in
    let (u, f, g) = then-read (block_reply n xs) (λ _. refuse_if (ltb (length out) (length text)) 9 0 then λ _. read (length text)) e in
    let (v, p, q) = then-read (refuse_if (ltb (length out) (length text)) 9 0) (λ _. read (length text)) g in
    let l : length text ≡ k = cc in
    (f, ap (take k) (fills text out e) ∙ rw (← l) (take-append_seam text (drop (length text) out)))

-- so these bytes read back as the same block
pub round_trip : (n : ℕ) (xs out : List ℕ) (k room : ℕ) → molfile_write_reply n xs (length out) ≡ read k → ReadsBack n xs room (take k (written_bytes n xs out))
round_trip n xs out k room e = let w = wrote n xs out k e in rw w.1 (reads_back n xs room w.0)
