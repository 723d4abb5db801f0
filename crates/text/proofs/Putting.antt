-- Laws. Words put into a lent output one after the other. Assumes nothing.
use Prim.Native.Nat.{ℕ, suc, ◌+◌, ◌-◌, ◌<◌, ◌≤◌, min}
use mathlib.Core.List.{List, [], ◌∷◌, ◌++◌}
use mathlib.Core.Path.{◌≡◌, refl, sym, ◌∙◌, ap}
use native.Mathlib.Omega.{arith}
use native.Mathlib.Numerals.{add-one}
use native.Mathlib.Decide.{ℕ_discrete}
use lib.ListN.{length, get_or, set, take, drop, length-append, take-append-drop}
use lib.Seq.{sets, sets-eq, length-sets, set_out, take-suc, take_all, length-take-le}
use Rattle.text.specs.Put.{Puts}

sets_append : (l : List ℕ) (i : ℕ) (v w : List ℕ) → sets (sets l i v) (i + length v) w ≡ sets l i (v ++ w)
sets_append l i [] w = let z : i + 0 ≡ i = omega arith in rw z
sets_append l i (a ∷ v) w = let z : i + suc (length v) ≡ suc i + length v = omega arith in rw z (sets_append (set l i a) (suc i) v w)

-- past the end nothing is put
sets_out : (l : List ℕ) (i : ℕ) (w : List ℕ) → length l ≤ i → sets l i w ≡ l
sets_out l i [] h = refl
sets_out l i (a ∷ w) h = rw (set_out l i a h) (sets_out l (suc i) w (omega arith))

-- no word, and one word after another
pub none : {out : List ℕ} {at : ℕ} → Puts out at [] out at
none = record { bytes = refl; end = omega arith }

pub both : {before between after u w : List ℕ} {at k r : ℕ} → Puts before at u between k → Puts between k w after r → Puts before at (u ++ w) after r
both {before} {between} {after} {u} {w} {at} {k} {r} p q =
    let n : length between ≡ length before = ap length p.bytes ∙ length-sets before at u in
    record {
      bytes = q.bytes ∙ rw p.bytes (go (ℕ_discrete (min (length u) (length before - at)) (length u))) ∙ sets_append before at u w;
      end = omega (arith, p.end, q.end, length-append u w);
    }
  where
    go : Dec (min (length u) (length before - at) ≡ length u) → sets (sets before at u) k w ≡ sets (sets before at u) (at + length u) w
    go (yes e) = let z : k ≡ at + length u = omega (arith, p.end) in rw z
    go (no e) =
        let m = length-sets before at u in
        sets_out (sets before at u) k w (omega (arith, p.end)) ∙ sym (sets_out (sets before at u) (at + length u) w (omega arith))

pub as_word : {before after u w : List ℕ} {at r : ℕ} → u ≡ w → Puts before at u after r → Puts before at w after r
as_word e p = rw (← e) p

pub same_length : {before after word : List ℕ} {at r : ℕ} → Puts before at word after r → length after ≡ length before
same_length {before} {after} {word} {at} p = ap length p.bytes ∙ length-sets before at word

-- a text that there is room for stands at the front, and later bytes are as they were
pub at_front : {before after text : List ℕ} {r : ℕ} → Puts before 0 text after r → length text ≤ length before → (r ≡ length text) × (after ≡ text ++ drop (length text) before)
at_front {before} {after} {text} {r} p h = (omega (arith, p.end), p.bytes ∙ sets-eq text before 0 (omega arith) ∙ ap (λ (k : ℕ). text ++ drop k before) zero_more)
  where
    zero_more : 0 + length text ≡ length text
    zero_more = omega arith

-- byte by byte: i bytes of the word are put, and k is the place past them
pub one_more : (out₀ : List ℕ) (at : ℕ) (word out : List ℕ) (k i : ℕ) → k ≡ at + i → i < length word → out ≡ sets out₀ at (take i word)
    → set out k (get_or word i 0) ≡ sets out₀ at (take (i + 1) word)
one_more out₀ at word out k i e l p =
    let n = length-take-le i word (omega arith) in
    rw (p, e, add-one i, take-suc word i 0 l) (rw n at (sets_append out₀ at (take i word) (get_or word i 0 ∷ [])))

pub all_put : (out₀ : List ℕ) (at : ℕ) (word out : List ℕ) (k i : ℕ) → i ≤ length word → k ≡ at + i → out ≡ sets out₀ at (take i word) → length word ≤ i → i ≤ length out₀ - at
    → Puts out₀ at word out k
all_put out₀ at word out k i l e p h room = record { bytes = p ∙ ap (sets out₀ at) (take_all i word h); end = omega arith }

pub no_room : (out₀ : List ℕ) (at : ℕ) (word out : List ℕ) (k i : ℕ) → i ≤ length word → k ≡ at + i → out ≡ sets out₀ at (take i word) → length out₀ ≤ k → i ≤ length out₀ - at
    → Puts out₀ at word out k
no_room out₀ at word out k i l e p h room = record {
  bytes =
      let n = length-take-le i word l in
      let m = length-sets out₀ at (take i word) in
      p
      ∙ sym (sets_out (sets out₀ at (take i word)) k (drop i word) (omega arith))
      ∙ rw e (rw n at (sets_append out₀ at (take i word) (drop i word)))
      ∙ ap (sets out₀ at) (take-append-drop i word);
  end = omega arith;
}

-- a byte
pub one_byte : (l : List ℕ) (at b : ℕ) → at < length l → Puts l at (b ∷ []) (set l at b) (at + 1)
one_byte l at b h = record { bytes = refl; end = omega arith }

pub byte_out : (l : List ℕ) (at b : ℕ) → length l ≤ at → Puts l at (b ∷ []) l at
byte_out l at b h = record { bytes = sym (set_out l at b h); end = omega arith }
