-- Laws. What a reader makes of what is kept of a file. Assumes nothing.
use Prim.Native.Nat.{ℕ, zero, suc, ◌*◌, ◌/◌, ◌<◌, ◌≤◌}
use mathlib.Core.Bool.{Bool, true, false, ◌||◌, cond}
use mathlib.Core.List.{List, [], ◌∷◌}
use mathlib.Core.Path.{◌≡◌, refl, sym, ◌∙◌, ap, subst}
use native.Mathlib.Omega.{arith}
use borrow.Author.Tests.{lt-ltb, le-ltb}
use lib.ListN.{length, take, drop, length-append, length-take}
use lib.Seq.{sets, take_at, length-take-le}
use Rattle.graph.specs.Graph.{Bond}
use Rattle.reply.specs.Read.{Read, refused, read, refusal}
use Rattle.reply.specs.declared.Refusal.{Refusal}
use Rattle.text.proofs.Putting.{at_front}
use Rattle.molfile.specs.Molfile.{bond_line_count, bond_of_line, dropped_in, new_number, kept_bytes, lines_reply, kept_atoms, bytes_of, fitting_reply, file_reply}
use Rattle.molfile.specs.Said.{said_answer, said_molfile, said_kept, filled_bonds, file_numbers, kept_numbers}
use Rattle.molfile.specs.Work.{most}
use Rattle.molfile.specs.declared.Kept.{Kept}
use Rattle.molfile.proofs.Chains.{lines_parts, counts_few}
use Rattle.molfile.proofs.Replies.{kept-refused, kept_of}
use Rattle.std.specs.Prelude.{Result, Ok, Err}
use Rattle.reply.specs.declared.Counts.{Counts}

-- two numbers a bond at most
bytes_few : (dropped : ℕ → Bool) (f : ℕ → Bond) (m : ℕ) → length (kept_bytes dropped f m) ≤ 2 * m
unfolding kept_bytes
bytes_few dropped f zero = omega arith
bytes_few dropped f (suc k) =
    let a = new_number dropped (f k).one in
    let b = new_number dropped (f k).two in
    let t = dropped (f k).one || dropped (f k).two in
    omega (arith, bytes_few dropped f k, length-append (kept_bytes dropped f k) (cond t [] (a ∷ b ∷ [])), two t a b)
  where
    two : (t : Bool) (a b : ℕ) → length (cond t [] (a ∷ b ∷ [])) ≤ 2
    two true a b = omega arith
    two false a b = omega arith

-- so all of them fit where there is room for the bonds that three digits say
pub bytes_room : (d : List ℕ) → lines_reply d ≡ read tt → length (bytes_of d) ≤ 2 * most
bytes_room d e = omega (arith, counts_few d (lines_parts d e).0, bytes_few (dropped_in d) (bond_of_line d) (bond_line_count d))

-- what is kept, as far as there was room, stands at the front
pub record Front (d row : List ℕ) (room : ℕ) (k : Kept) : Type 0 where
  pub fine : lines_reply d ≡ read tt
  pub atoms_are : k.atoms ≡ kept_atoms d
  pub few : (k.numbers ≤ room) × (k.numbers ≤ length row)
  pub taken : length (take k.numbers row) ≡ k.numbers
  pub numbers_are : take k.numbers row ≡ take room (bytes_of d)

pub front : (d zs : List ℕ) {row : List ℕ} {room : ℕ} {k : Kept} → length zs ≡ room → said_kept d (length zs) (lines_reply d) ≡ Ok k → row ≡ kept_numbers d zs → Front d row room k
unfolding filled_bonds
front d zs {row} {room} {k} e r p =
    let t = kept_of d (length zs) (lines_reply d) r in
    let xs = take (length zs) (bytes_of d) in
    let q = p ∙ ap (λ (m : Read (Unit {0})). filled_bonds m xs zs) t.0 in
    let f : (k.numbers ≤ length zs) × (k.numbers ≤ length row) = omega (arith, t.2, ap length q, length-take (length zs) (bytes_of d), length-append xs (drop (length xs) zs)) in
    subst (λ (n : ℕ). Front d row n k) e (record {
      fine = t.0;
      atoms_are = sym t.1;
      few = f;
      taken = length-take-le k.numbers row f.1;
      numbers_are = ap (take k.numbers) q ∙ take_at xs (drop (length xs) zs) k.numbers t.2;
    })

-- the answer for n atoms and bonds, by what a kind of reader refuses of them, and what is lent afterwards
module _ (kind : ℕ → List ℕ → Read (Unit {0})) where
  abbrev pub Answers : ℕ → List ℕ → List ℕ → Result Counts Refusal → List ℕ → Type 0
  Answers n xs out r after = (r ≡ said_answer n xs (fitting_reply kind n xs (length out))) × (after ≡ filled_bonds (fitting_reply kind n xs (length out)) xs out)

  abbrev pub Reads : List ℕ → List ℕ → Result Counts Refusal → List ℕ → Type 0
  Reads d out r after = (r ≡ said_molfile d (file_reply kind d (length out))) × (after ≡ file_numbers kind d out)

  pub alike : (out : List ℕ) {n n' : ℕ} {xs ys after : List ℕ} {r : Result Counts Refusal} → n ≡ n' → xs ≡ ys → Answers n xs out r after → Answers n' ys out r after
  alike out e f a = rw (← e, ← f) a

  pub refused_alike : (out : List ℕ) {n : ℕ} {xs ys after : List ℕ} {r : Result Counts Refusal} {s : Refusal} → kind n xs ≡ refused s → kind n ys ≡ refused s → Answers n xs out r after → Answers n ys out r after
  unfolding filled_bonds
  refused_alike out e f a = rw f (rw e at a)

  module _ (n : ℕ) (xs out : List ℕ) where
    pub answers_refused : {r : Refusal} → kind n xs ≡ refused r → Answers n xs out (Err r) out
    unfolding filled_bonds
    answers_refused e = rw e (refl, refl)

    pub answers_short : kind n xs ≡ read tt → length out < length xs → Answers n xs out (Err (refusal 9 0)) out
    unfolding filled_bonds
    answers_short e l = rw (e, lt-ltb (length out) (length xs) l) (refl, refl)

    pub answers_fine : {after : List ℕ} → kind n xs ≡ read tt → length xs ≤ length out → after ≡ sets out 0 xs → Answers n xs out (Ok (record { atoms = n; bonds = length xs / 2 })) after
    unfolding filled_bonds
    answers_fine e l p = rw (e, le-ltb (length out) (length xs) l) (refl, (at_front {before = out} {text = xs} {r = length xs} (record { bytes = p; end = omega arith }) l).1)

  -- that for a file is that for what is kept of it
  module _ (d out : List ℕ) where
    pub reads_refused : (room : ℕ) {r : Refusal} → said_kept d room (lines_reply d) ≡ Err r → Reads d out (Err r) out
    unfolding file_reply filled_bonds
    reads_refused room e = rw (kept-refused d room (lines_reply d) e) (refl, refl)

    pub reads_kept : {r : Result Counts Refusal} {after : List ℕ} → lines_reply d ≡ read tt → Answers (kept_atoms d) (bytes_of d) out r after → Reads d out r after
    unfolding file_reply
    reads_kept e a = rw e a
