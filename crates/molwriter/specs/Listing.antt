-- Laws. The lines of the text that is written. Assumes nothing.
use Rattle.std.specs.Prelude.{ℕ, zero, suc, ◌+◌, ◌<◌, true, List, [], ◌∷◌, ◌++◌, ◌≡◌, refl, length, get_or, drop, replicate}
use Rattle.std.proofs.Common.{append_assoc, sym, ◌∙◌, ap, arith, length-append, get_or-append-add}
use Rattle.std.proofs.lemmas.List.{length-replicate, get_or-replicate}
use Rattle.std.proofs.Math.ListN.{get_or-append}
use Rattle.std.proofs.Math.Seq.{drop-append-add, drop-append_seam}
use Rattle.graph.specs.Graph.{Bond, bond}
use Rattle.text.specs.Text.{ascii, three}
use Rattle.molwriter.specs.Written.{counts_line, atom_line, bond_line, bond_lines, end_line, molfile_lines, unlines, molfile_text}
use Rattle.molwriter.specs.Pieces.{counts_text, atom_text, atoms_text, bond_text, bonds_text, pieces}
use Rattle.molwriter.specs.Unlines.{is_plain, all_plain, unlines_append, both}
use Rattle.molwriter.specs.Threes.{three_plain}

-- those after the counts
abbrev lists : ℕ → List Bond → List (List ℕ)
lists n bs = replicate n atom_line ++ (bond_lines bs ++ (end_line ∷ []))

-- they make the text
atoms_lines : (n : ℕ) → unlines (replicate n atom_line) ≡ atoms_text n
unfolding unlines atoms_text atom_text atom_line
atoms_lines zero = refl
atoms_lines (suc n) = ap (λ (t : List ℕ). atom_text ++ t) (atoms_lines n)

bonds_lines : (bs : List Bond) → unlines (bond_lines bs) ≡ bonds_text bs
unfolding unlines bond_lines bond_line bonds_text bond_text three
bonds_lines [] = refl
bonds_lines (b ∷ bs) = ap (λ (t : List ℕ). bond_text b ++ t) (bonds_lines bs)

lists_lines : (n : ℕ) (bs : List Bond) → unlines (lists n bs) ≡ atoms_text n ++ (bonds_text bs ++ ascii "M  END\n")
unfolding unlines end_line
lists_lines n bs =
    unlines_append (replicate n atom_line) (bond_lines bs ++ (end_line ∷ []))
    ∙ ap (λ (t : List ℕ). t ++ unlines (bond_lines bs ++ (end_line ∷ []))) (atoms_lines n)
    ∙ ap (λ (t : List ℕ). atoms_text n ++ t) (unlines_append (bond_lines bs) (end_line ∷ []) ∙ ap (λ (t : List ℕ). t ++ ascii "M  END\n") (bonds_lines bs))

pub text_pieces : (n : ℕ) (bs : List Bond) → pieces n bs ≡ molfile_text n bs
unfolding molfile_text pieces unlines molfile_lines counts_line counts_text three
text_pieces n bs =
    let h = ascii "\n\n\n" ++ counts_text n (length bs) in
    let e = ascii "M  END\n" in
    ap (λ (t : List ℕ). t ++ e) (append_assoc h (atoms_text n) (bonds_text bs))
    ∙ append_assoc h (atoms_text n ++ bonds_text bs) e
    ∙ ap (λ (t : List ℕ). h ++ t) (append_assoc (atoms_text n) (bonds_text bs) e ∙ sym (lists_lines n bs))

-- all are plain
plain_append : (xs ys : List (List ℕ)) → all_plain xs ≡ true → all_plain ys ≡ true → all_plain (xs ++ ys) ≡ true
unfolding all_plain
plain_append [] ys p q = q
plain_append (x ∷ xs) ys p q = let r = both (is_plain x) (all_plain xs) p in rw (r.0, plain_append xs ys r.1 q)

atoms_plain : (n : ℕ) → all_plain (replicate n atom_line) ≡ true
unfolding all_plain is_plain atom_line
atoms_plain zero = refl
atoms_plain (suc n) = atoms_plain n

bond_tail : is_plain (ascii "  1  0  0  0  0") ≡ true
unfolding is_plain
bond_tail = refl

bonds_plain : (bs : List Bond) → all_plain (bond_lines bs) ≡ true
unfolding all_plain bond_lines bond_line
bonds_plain [] = refl
bonds_plain (b ∷ bs) = rw (three_plain b.one (three b.two ++ (ascii "  1  0  0  0  0")) (three_plain b.two (ascii "  1  0  0  0  0") bond_tail)) (bonds_plain bs)

pub lines_plain : (n : ℕ) (bs : List Bond) → all_plain (molfile_lines n bs) ≡ true
unfolding all_plain is_plain molfile_lines counts_line end_line
lines_plain n bs =
    rw (three_plain n (three (length bs) ++ (ascii "  0  0  0  0  0  0  0  0999 V2000")) (three_plain (length bs) (ascii "  0  0  0  0  0  0  0  0999 V2000") refl))
    (plain_append (replicate n atom_line) (bond_lines bs ++ (end_line ∷ [])) (atoms_plain n) (plain_append (bond_lines bs) (end_line ∷ []) (bonds_plain bs) refl))

-- which is which
bonds_count : (bs : List Bond) → length (bond_lines bs) ≡ length bs
unfolding bond_lines
bonds_count [] = refl
bonds_count (b ∷ bs) = ap suc (bonds_count bs)

pub lines_count : (n : ℕ) (bs : List Bond) → length (molfile_lines n bs) ≡ 5 + n + length bs
unfolding molfile_lines
lines_count n bs = omega (arith, length-append (replicate n atom_line) (bond_lines bs ++ (end_line ∷ [])), length-replicate n atom_line, length-append (bond_lines bs) (end_line ∷ []), bonds_count bs)

atom_at : (n i : ℕ) (rest : List (List ℕ)) → i < n → get_or (replicate n atom_line ++ rest) i [] ≡ atom_line
atom_at n i rest h = get_or-append (replicate n atom_line) rest [] i (omega (arith, length-replicate n atom_line)) ∙ get_or-replicate n i atom_line [] h

bond_at : (bs : List Bond) (k : ℕ) (rest : List (List ℕ)) → k < length bs → get_or (bond_lines bs ++ rest) k [] ≡ bond_line (get_or bs k (bond 0 0))
unfolding bond_lines
bond_at [] k rest h = absurd (omega arith)
bond_at (b ∷ bs) zero rest h = refl
bond_at (b ∷ bs) (suc k) rest h = bond_at bs k rest (omega arith)

pub lines_atom : (n i : ℕ) (bs : List Bond) → i < n → get_or (molfile_lines n bs) (4 + i) [] ≡ atom_line
unfolding molfile_lines
lines_atom n i bs h = let e : 4 + i ≡ suc (suc (suc (suc i))) = omega arith in rw e (atom_at n i (bond_lines bs ++ (end_line ∷ [])) h)

pub lines_bond : (n k : ℕ) (bs : List Bond) → k < length bs → get_or (molfile_lines n bs) (4 + n + k) [] ≡ bond_line (get_or bs k (bond 0 0))
unfolding molfile_lines
lines_bond n k bs h =
    let e : 4 + n + k ≡ suc (suc (suc (suc (length (replicate n atom_line) + k)))) = omega (arith, length-replicate n atom_line) in
    rw e (get_or-append-add (replicate n atom_line) (bond_lines bs ++ (end_line ∷ [])) k [] ∙ bond_at bs k (end_line ∷ []) h)

pub lines_rest : (n : ℕ) (bs : List Bond) → drop (4 + n + length bs) (molfile_lines n bs) ≡ end_line ∷ []
unfolding molfile_lines
lines_rest n bs =
    let e : 4 + n + length bs ≡ suc (suc (suc (suc (length (replicate n atom_line) + length (bond_lines bs))))) = omega (arith, length-replicate n atom_line, bonds_count bs) in
    rw e (drop-append-add (replicate n atom_line) (bond_lines bs ++ (end_line ∷ [])) (length (bond_lines bs)) ∙ drop-append_seam (bond_lines bs) (end_line ∷ []))
