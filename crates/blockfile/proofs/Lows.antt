-- Laws. Numbers as bytes: those of a block's bonds stay, and more of them than a block may have are refused whatever they are. Assumes nothing.
use Prim.Native.Nat.{ℕ, zero, suc, ◌+◌, ◌%◌, ◌<◌, ◌≤◌}
use mathlib.Core.Bool.{Bool, true, false, ◌||◌, not, or-true, cond}
use mathlib.Core.List.{List, [], ◌∷◌, ◌++◌, map, map-append}
use mathlib.Core.Path.{◌≡◌, refl, sym, ◌∙◌, ap, ap₂}
use native.Mathlib.Omega.{arith}
use borrow.Author.Tests.{ltb-true, ltb-false, lt-ltb}
use lib.Dec.{eqb, ltb}
use lib.ListN.{length, get_or, set, take, drop, length-take, length-map, get_or-map}
use lib.Seq.{sets, take_all, take_at, length-take-le, length-sets}
use Rattle.graph.specs.Graph.{Bond, Within}
use Rattle.reply.specs.Read.{refused, read, refusal, is_outside}
use Rattle.reply.specs.Chain.{neither}
use Rattle.block.specs.Block.{most_atoms, most_bytes, block_reply}
use Rattle.text.proofs.Putting.{one_more, at_front}
use Rattle.molfile.specs.Molfile.{atom_line_count, bond_line_count, bond_of_line, dropped_in, new_number, is_kept, kept_bytes, lines_reply, kept_atoms, bytes_of}
use Rattle.molfile.proofs.Same.{count_up}
use Rattle.molfile.proofs.Chains.{lines_parts}
use Rattle.molfile.proofs.Files.{ends_within}
use Rattle.molfile.proofs.Fronts.{Answers, alike, refused_alike}
use Rattle.blockfile.specs.Bytes.{low}
use Rattle.reply.specs.declared.Refusal.{Refusal}
use Rattle.reply.specs.declared.Counts.{Counts}
use Rattle.std.specs.Prelude.{Result}

-- number by number
pub narrow_more : (xs out₀ out : List ℕ) (i v : ℕ) → i < length xs → v ≡ low (get_or xs i 0) → out ≡ sets out₀ 0 (take i (map low xs))
    → set out i v ≡ sets out₀ 0 (take (i + 1) (map low xs))
narrow_more xs out₀ out i v l e p =
    ap (set out i) (e ∙ sym (get_or-map low xs i 0)) ∙ one_more out₀ 0 (map low xs) out i i (omega arith) (omega (arith, length-map xs low)) p

pub narrow_all : (xs out₀ out : List ℕ) (i : ℕ) → length xs ≤ i → out ≡ sets out₀ 0 (take i (map low xs)) → out ≡ sets out₀ 0 (map low xs)
narrow_all xs out₀ out i l p = p ∙ ap (sets out₀ 0) (take_all i (map low xs) (omega (arith, length-map xs low)))

-- what stands at the front then
pub narrowed : (xs zs : List ℕ) {out : List ℕ} {k : ℕ} → length xs ≡ k → k ≤ length zs → out ≡ sets zs 0 (map low xs) → (k ≤ length out) × (length (take k out) ≡ k) × (take k out ≡ map low xs)
narrowed xs zs {out} {k} e h p =
    let n = length-map xs low in
    let l : k ≤ length out = omega (arith, ap length p, length-sets zs 0 (map low xs)) in
    let f = (at_front {before = zs} {text = map low xs} {r = k} (record { bytes = p; end = omega arith }) (omega arith)).1 in
    (l, length-take-le k out l, ap (take k) f ∙ take_at (map low xs) (drop (length (map low xs)) zs) k (omega arith))

-- the numbers of as many atoms as a block may have
module _ (dropped : ℕ → Bool) (f : ℕ → Bond) (n : ℕ) (few : new_number dropped n ≤ most_atoms) where
  stays : (v : ℕ) → Within n v → low (new_number dropped v) ≡ new_number dropped v
  stays v w = omega (arith, count_up n v (is_kept dropped) w.high)

  lows_small : (m : ℕ) → ((k : ℕ) → k < m → Within n (f k).one × Within n (f k).two) → map low (kept_bytes dropped f m) ≡ kept_bytes dropped f m
  unfolding kept_bytes
  lows_small zero w = refl
  lows_small (suc k) w =
      let x = new_number dropped (f k).one in
      let y = new_number dropped (f k).two in
      let t = dropped (f k).one || dropped (f k).two in
      map-append low (kept_bytes dropped f k) (cond t [] (x ∷ y ∷ []))
      ∙ ap₂ (λ (us vs : List ℕ). us ++ vs) (lows_small k (λ j h. w j (omega arith))) (two t x y (stays (f k).one (w k (omega arith)).0) (stays (f k).two (w k (omega arith)).1))
    where
      two : (t : Bool) (x y : ℕ) → low x ≡ x → low y ≡ y → map low (cond t [] (x ∷ y ∷ [])) ≡ cond t [] (x ∷ y ∷ [])
      two true x y p q = refl
      two false x y p q = rw (p, q)

-- too many atoms, or too many bytes of bonds
module _ (n : ℕ) (xs : List ℕ) where
  many : is_outside most_atoms n ≡ true → block_reply n xs ≡ refused (refusal 1 0)
  unfolding block_reply
  many o = rw o

  long : is_outside most_atoms n ≡ false → most_bytes < length xs → block_reply n xs ≡ refused (refusal 2 0)
  unfolding block_reply
  long o l = rw (o, lt-ltb most_bytes (length xs) l, or-true (not (eqb (length xs % 2) 0)))

-- the same answer for the bytes of a file's bonds, one more than a block may have at most
pub cut_same : (d out : List ℕ) {after : List ℕ} {r : Result Counts Refusal} → lines_reply d ≡ read tt → Answers block_reply (kept_atoms d) (map low (take (most_bytes + 1) (bytes_of d))) out r after
    → Answers block_reply (kept_atoms d) (bytes_of d) out r after
cut_same d out {after} {r} fine a = go (is_outside most_atoms (kept_atoms d)) (ltb most_bytes (length (bytes_of d))) refl refl
  where
    go : (s t : Bool) → is_outside most_atoms (kept_atoms d) ≡ s → ltb most_bytes (length (bytes_of d)) ≡ t → Answers block_reply (kept_atoms d) (bytes_of d) out r after
    go true t o l = refused_alike block_reply out (many (kept_atoms d) (map low (take (most_bytes + 1) (bytes_of d))) o) (many (kept_atoms d) (bytes_of d) o) a
    go false true o l =
        let ys = bytes_of d in
        let xs = take (most_bytes + 1) ys in
        let h = ltb-true most_bytes (length ys) l in
        refused_alike block_reply out (long (kept_atoms d) (map low xs) o (omega (arith, length-map xs low, length-take (most_bytes + 1) ys))) (long (kept_atoms d) ys o h) a
    go false false o l =
        let few = ltb-false most_atoms (kept_atoms d) (neither (eqb (kept_atoms d) 0) (ltb most_atoms (kept_atoms d)) o).1 in
        let all = take_all (most_bytes + 1) (bytes_of d) (omega (arith, ltb-false most_bytes (length (bytes_of d)) l)) in
        alike block_reply out refl (ap (map low) all ∙ lows_small (dropped_in d) (bond_of_line d) (atom_line_count d) few (bond_line_count d) (ends_within d (lines_parts d fine).1)) a
