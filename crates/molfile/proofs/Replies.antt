-- Laws. What the reply of `kept_bonds` says of its definition. Assumes nothing.
use Prim.Native.Nat.{ℕ}
use mathlib.Core.List.{List}
use mathlib.Core.Path.{◌≡◌, refl, ap}
use native.Mathlib.Omega.{arith}
use lib.ListN.{length, take}
use Rattle.reply.specs.Read.{Read, refused, read}
use Rattle.reply.specs.declared.Refusal.{Refusal}
use Rattle.molfile.specs.Molfile.{atom_line_count, bond_line_count, bond_of_line, dropped_in, lines_reply, kept_atoms, bytes_of}
use Rattle.molfile.specs.Said.{said_kept, filled_bonds, kept_numbers}
use Rattle.molfile.specs.Work.{KeepsBonds}
use Rattle.molfile.specs.declared.Kept.{Kept}
use Rattle.std.specs.Prelude.{Ok, Err}

module _ (d : List ℕ) where
  pub kept-refused : (room : ℕ) (R : Read (Unit {0})) {r : Refusal} → said_kept d room R ≡ Err r → R ≡ refused r
  kept-refused room (refused s) e = ap refused (cc)
  kept-refused room (read u) e = let z : ◌≡◌ {A = ℕ} 0 1 = cc in absurd (omega arith)

  pub kept_of : (room : ℕ) (R : Read (Unit {0})) {k : Kept} → said_kept d room R ≡ Ok k → (R ≡ read tt) × (kept_atoms d ≡ k.atoms) × (length (take room (bytes_of d)) ≡ k.numbers)
  kept_of room (refused s) e = let z : ◌≡◌ {A = ℕ} 0 1 = cc in absurd (omega arith)
  kept_of room (read u) e = (refl, cc, cc)

  pub refused-kept : (out : List ℕ) {r : Refusal} → lines_reply d ≡ refused r → (Err r ≡ said_kept d (length out) (lines_reply d)) × (out ≡ kept_numbers d out)
  unfolding filled_bonds
  refused-kept out e = rw e (refl, refl)

  pub of_kept : {out after : List ℕ} {k : Kept} → lines_reply d ≡ read tt → KeepsBonds (dropped_in d) (bond_of_line d) (atom_line_count d) (bond_line_count d) out after k
      → (Ok k ≡ said_kept d (length out) (lines_reply d)) × (after ≡ kept_numbers d out)
  unfolding filled_bonds
  of_kept e K = rw e ((λ i. Ok (record { atoms = K.atoms i; numbers = K.count i })), K.numbers_are)
