-- Laws. The bonds of a block that is not refused fit into what is lent for them. Assumes nothing.
use Prim.Native.Nat.{ℕ, ◌*◌, ◌/◌, ◌%◌, ◌≤◌}
use mathlib.Core.Bool.{not}
use mathlib.Core.List.{List, ◌++◌}
use mathlib.Core.Path.{◌≡◌, refl, sym, ◌∙◌, ap}
use native.Mathlib.Omega.{arith}
use borrow.Author.Tests.{ltb-false, le-ltb, eqb-true, not-false}
use lib.Dec.{eqb, ltb}
use lib.ListN.{length, take, length-append}
use lib.Seq.{take-append_seam}
use Rattle.reply.specs.Read.{Read, refused, read, ◌then◌, refuse_if, as_result, as_read}
use Rattle.reply.specs.Chain.{then-read, neither, counted_read, read_back}
use Rattle.reply.specs.declared.Counts.{Counts}
use Rattle.block.specs.Block.{most_bytes, block_reply}
use Rattle.block.specs.Index.{indices_reply}
use Rattle.block.specs.Told.{passed}
use Rattle.molfile.specs.Molfile.{lines_reply, kept_atoms, bytes_of, file_reply, molfile_reply}
use Rattle.molfile.specs.Said.{filled_bonds, molfile_bytes}
use Rattle.measuring.specs.Measuring.{Fits, counted_reply, measure_reply}
use Rattle.std.specs.Prelude.{Result}
use Rattle.reply.specs.declared.Refusal.{Refusal}

module _ (n : ℕ) (xs : List ℕ) (fine : block_reply n xs ≡ read tt) where
  pub few : length xs ≤ most_bytes
  few = ltb-false most_bytes (length xs) (neither (not (eqb (length xs % 2) 0)) (ltb most_bytes (length xs)) (passed n xs fine).bytes).1

  pub whole : 2 * (length xs / 2) ≡ length xs
  whole =
      let e = eqb-true (length xs % 2) 0 (not-false (eqb (length xs % 2) 0) (neither (not (eqb (length xs % 2) 0)) (ltb most_bytes (length xs)) (passed n xs fine).bytes).0) in
      omega arith

-- bytes that stand at the front, cut to them
pub front_cut : (xs rest : List ℕ) {new : List ℕ} (m : ℕ) → 2 * m ≡ length xs → new ≡ xs ++ rest → (2 * m ≤ length new) × (take (2 * m) new ≡ xs)
front_cut xs rest m k e = (rw (k, e) (omega (arith, length-append xs rest)), rw (k, e) (take-append_seam xs rest))

-- what is measured of bonds that a reply counted and that stand at the front
module _ {A : Type 0} (R : Read A) (counts : A → Counts) (bytes : A → List ℕ) (seen : Result Counts Refusal) (new : List ℕ) (e : seen ≡ as_result (R then λ a. read (counts a)))
    (cut : (a : A) → R ≡ read a → (2 * (counts a).bonds ≤ length new) × (take (2 * (counts a).bonds) new ≡ bytes a)) where
  pub fits : Fits seen new
  fits c q = let (a, r, n) = counted_read R counts (sym e ∙ q) in rw (← n) (cut a r).0

  pub counted_is : counted_reply (as_read seen) new ≡ (R then λ a. indices_reply (counts a).atoms (bytes a))
  counted_is = rw (read_back seen (R then λ a. read (counts a)) e) (go R cut)
    where
      go : (Q : Read A) → ((a : A) → Q ≡ read a → (2 * (counts a).bonds ≤ length new) × (take (2 * (counts a).bonds) new ≡ bytes a))
          → counted_reply (Q then λ a. read (counts a)) new ≡ (Q then λ a. indices_reply (counts a).atoms (bytes a))
      go (refused r) f = refl
      go (read a) f = ap (indices_reply (counts a).atoms) (f a refl).1

module _ (d : List ℕ) where
  pub never_nine : (molfile_reply d most_bytes then λ _. indices_reply (kept_atoms d) (bytes_of d)) ≡ measure_reply d
  unfolding file_reply measure_reply indices_reply
  never_nine = go (lines_reply d) (block_reply (kept_atoms d) (bytes_of d)) refl
    where
      go : (L B : Read (Unit {0})) → block_reply (kept_atoms d) (bytes_of d) ≡ B
          → ((L then λ _. B then λ _. refuse_if (ltb most_bytes (length (bytes_of d))) 9 0) then λ _. indices_reply (kept_atoms d) (bytes_of d)) ≡ (L then λ _. indices_reply (kept_atoms d) (bytes_of d))
      go (refused s) B b = refl
      go (read u) (refused s) b = rw b refl
      go (read u) (read v) b = rw (le-ltb most_bytes (length (bytes_of d)) (few (kept_atoms d) (bytes_of d) b)) refl

  pub molfile_cut : (old new : List ℕ) → length old ≡ most_bytes → new ≡ molfile_bytes d old → molfile_reply d most_bytes ≡ read tt
      → (2 * (length (bytes_of d) / 2) ≤ length new) × (take (2 * (length (bytes_of d) / 2)) new ≡ bytes_of d)
  unfolding file_reply filled_bonds
  molfile_cut old new l h e =
      let (u, a, b) = then-read (lines_reply d) (λ _. block_reply (kept_atoms d) (bytes_of d) then λ _. refuse_if (ltb most_bytes (length (bytes_of d))) 9 0) e in
      let (v, f, g) = then-read (block_reply (kept_atoms d) (bytes_of d)) (λ _. refuse_if (ltb most_bytes (length (bytes_of d))) 9 0) b in
      front_cut (bytes_of d) _ (length (bytes_of d) / 2) (whole (kept_atoms d) (bytes_of d) f) (rw (l, e) at h)
