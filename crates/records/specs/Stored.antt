-- Laws. What is read of bytes after others were stored among them. Assumes nothing.
use Rattle.std.specs.Prelude.{ℕ, zero, suc, ◌+◌, ◌*◌, ◌-◌, ◌≤◌, ◌<◌, List, [], ◌∷◌, ◌++◌, ◌⊎◌, ◌≡◌, refl, length, get_or, set, take, drop}
use Rattle.std.proofs.Common.{inl, inr, ⊎_elim, sym, ◌∙◌, ap, ap₂, arith, length-take, length-drop, length-set, get_or-set_same, get_or-set_other, get_or-take, get_or-drop, ext_get_or, take-take, drop-drop}
use Rattle.std.proofs.lemmas.List.Edits.{sets}
use Rattle.std.proofs.Math.Seq.{length-sets, take-nil}
use Rattle.records.specs.Bytes.{little, part}

-- what is stored behind what was stored
sets_append : (xs ys l : List ℕ) (at : ℕ) → sets l at (xs ++ ys) ≡ sets (sets l at xs) (at + length xs) ys
sets_append [] ys l at = let e : at ≡ at + 0 = omega arith in ap (λ (k : ℕ). sets l k ys) e
sets_append (x ∷ xs) ys l at =
    let e : suc at + length xs ≡ at + suc (length xs) = omega arith in
    sets_append xs ys (set l at x) (suc at) ∙ ap (λ (k : ℕ). sets (sets (set l at x) (suc at) xs) k ys) e

pub joined : (l : List ℕ) {m r : List ℕ} (xs ys : List ℕ) (at p : ℕ) → m ≡ sets l at xs → r ≡ sets m p ys → p ≡ at + length xs → r ≡ sets l at (xs ++ ys)
joined l xs ys at p e f q = f ∙ ap₂ (λ (m : List ℕ) (k : ℕ). sets m k ys) e q ∙ sym (sets_append xs ys l at)

-- a place that is not stored to
abbrev pub Outside : ℕ → ℕ → ℕ → ℕ → Type 0
Outside from len i n = (from + len ≤ i) ⊎ (i + n ≤ from)

pub byte_kept : (vs l : List ℕ) (i j : ℕ) → Outside j 1 i (length vs) → get_or (sets l i vs) j 0 ≡ get_or l j 0
byte_kept [] l i j o = refl
byte_kept (v ∷ vs) l i j o = byte_kept vs (set l i v) (suc i) j (⊎_elim (λ h. inl (omega arith)) (λ h. inr (omega arith)) o) ∙ get_or-set_other l i j v 0 (λ e. ⊎_elim (λ h. omega arith) (λ h. omega arith) o)

pub byte_put : (vs l : List ℕ) (i j : ℕ) → i + length vs ≤ length l → j < length vs → get_or (sets l i vs) (i + j) 0 ≡ get_or vs j 0
byte_put [] l i j h m = absurd (omega arith)
byte_put (v ∷ vs) l i zero h m =
    let e : i + 0 ≡ i = omega arith in
    rw e (byte_kept vs (set l i v) (suc i) i (inl (omega arith)) ∙ get_or-set_same l i v 0 (omega arith))
byte_put (v ∷ vs) l i (suc j) h m =
    let e : i + suc j ≡ suc i + j = omega arith in
    rw e (byte_put vs (set l i v) (suc i) j (rw (length-set l i v) (omega arith)) (omega arith))

pub little_kept : (k : ℕ) (vs l : List ℕ) (i j : ℕ) → Outside j k i (length vs) → little k (sets l i vs) j ≡ little k l j
unfolding little
little_kept zero vs l i j o = refl
little_kept (suc k) vs l i j o =
    ap₂ (λ (a b : ℕ). a + 256 * b) (byte_kept vs l i j (⊎_elim (λ h. inl (omega arith)) (λ h. inr (omega arith)) o))
    (little_kept k vs l i (j + 1) (⊎_elim (λ h. inl (omega arith)) (λ h. inr (omega arith)) o))

pub little_put : (k : ℕ) (vs l : List ℕ) (i j : ℕ) → i + length vs ≤ length l → j + k ≤ length vs → little k (sets l i vs) (i + j) ≡ little k vs j
unfolding little
little_put zero vs l i j h m = refl
little_put (suc k) vs l i j h m =
    let e : i + j + 1 ≡ i + (j + 1) = omega arith in
    ap₂ (λ (a b : ℕ). a + 256 * b) (byte_put vs l i j h (omega arith)) (ap (little k (sets l i vs)) e ∙ little_put k vs l i (j + 1) h (omega arith))

pub part_ext : (l m : List ℕ) (f g len : ℕ) → f + len ≤ length l → g + len ≤ length m → ((i : ℕ) → i < len → get_or l (f + i) 0 ≡ get_or m (g + i) 0) → part l f len ≡ part m g len
part_ext l m f g len p q same =
    let size : (k : List ℕ) (h : ℕ) → h + len ≤ length k → length (part k h len) ≡ len = λ k h r. length-take len (drop h k) ∙ omega (arith, length-drop h k) in
    ext_get_or 0 (part l f len) (part m g len) (size l f p ∙ sym (size m g q))
    (λ i h. let b : i < len = omega (arith, size l f p) in get_or-take len (drop f l) i 0 b ∙ get_or-drop f l i 0 ∙ same i b ∙ sym (get_or-take len (drop g m) i 0 b ∙ get_or-drop g m i 0))

pub part_kept : (vs l : List ℕ) (i f len : ℕ) → f + len ≤ length l → Outside f len i (length vs) → part (sets l i vs) f len ≡ part l f len
part_kept vs l i f len h o =
    part_ext (sets l i vs) l f f len (rw (length-sets l i vs) h) h
    (λ j m. byte_kept vs l i (f + j) (⊎_elim (λ p. inl (omega arith)) (λ p. inr (omega arith)) o))

pub part_put : (vs l : List ℕ) (i f len : ℕ) → i + length vs ≤ length l → f + len ≤ length vs → part (sets l i vs) (i + f) len ≡ part vs f len
part_put vs l i f len h m =
    part_ext (sets l i vs) vs (i + f) f len (rw (length-sets l i vs) (omega arith)) m
    (λ j b. let e : i + f + j ≡ i + (f + j) = omega arith in rw e (byte_put vs l i (f + j) h (omega arith)))

-- what is read of a part
pub little-part : (k : ℕ) (s : List ℕ) (at len i : ℕ) → i + k ≤ len → little k (part s at len) i ≡ little k s (at + i)
unfolding little
little-part zero s at len i h = refl
little-part (suc k) s at len i h =
    let e : at + i + 1 ≡ at + (i + 1) = omega arith in
    ap₂ (λ (a b : ℕ). a + 256 * b) (get_or-take len (drop at s) i 0 (omega arith) ∙ get_or-drop at s i 0) (little-part k s at len (i + 1) (omega arith) ∙ ap (little k s) (sym e))

drop-take : (f len : ℕ) (l : List ℕ) → f ≤ len → drop f (take len l) ≡ take (len - f) (drop f l)
drop-take zero len l h = let e : len - 0 ≡ len = omega arith in rw e
drop-take (suc f) zero l h = absurd (omega arith)
drop-take (suc f) (suc len) [] h = sym (take-nil (suc len - suc f))
drop-take (suc f) (suc len) (x ∷ l) h = let e : suc len - suc f ≡ len - f = omega arith in rw e (drop-take f len l (omega arith))

pub part-part : (s : List ℕ) (at len f m : ℕ) → f + m ≤ len → part (part s at len) f m ≡ part s (at + f) m
part-part s at len f m h = ap (take m) (drop-take f len (drop at s) (omega arith)) ∙ take-take m (len - f) (drop f (drop at s)) (omega arith) ∙ ap (take m) (drop-drop f at s)
