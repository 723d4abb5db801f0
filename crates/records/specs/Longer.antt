-- Laws. Bytes put behind a list change no record that lies within it. Assumes nothing.
use Prim.Native.Nat.{ℕ, zero, suc, ◌+◌, ◌*◌, ◌≤◌}
use Rattle.std.specs.Prelude.{Bool, true, false, ◌≡◌, eqb, take, drop}
use Rattle.std.proofs.Math.Bool.{cond}
use mathlib.Core.List.{List, [], ◌∷◌, ◌++◌}
use Rattle.std.proofs.Math.Path.{refl, ap, ap₂}
use Rattle.std.proofs.Common.{◌∙◌, length-drop}
use native.Mathlib.Omega.{arith}
use borrow.Author.Tests.{le-ltb}
use Rattle.std.proofs.Math.ListN.{length, get_or, length-append, get_or-append}
use Rattle.std.proofs.lemmas.List.{take-append-le, drop-append-le}
use Rattle.std.proofs.Math.Seq.{get_or-append-add}
use Rattle.reply.specs.Read.{Read, read}
use Rattle.reply.specs.Chain.{not_read}
use Rattle.records.specs.Bytes.{little, part}
use Rattle.records.specs.Records.{head_bytes, length_at, kind_at, end_at, payload_at, wanted, kind_reply, is_wrong, length_reply, record_reply}
use Rattle.records.specs.Taken.{taken, of_least}
use Rattle.records.specs.declared.Kind.{Kind}

-- each kind's count stands in the bytes that every payload of it has
unfoldable pub Counted : List Kind → Type 0
Counted [] = Unit {0}
Counted (k ∷ ks) = (k.count + 2 ≤ k.fixed) × Counted ks

counted : (ks : List Kind) (d : List ℕ) (at : ℕ) {k : Kind} → Counted ks → kind_reply ks d at ≡ read k → k.count + 2 ≤ k.fixed
unfolding Counted kind_reply
counted [] d at c e = absurd (not_read e)
counted (l ∷ ks) d at {k} c e = go (eqb (kind_at d at) l.number) e (counted ks d at c.1)
  where
    go : (t : Bool) → cond t (read l) (kind_reply ks d at) ≡ read k → (kind_reply ks d at ≡ read k → k.count + 2 ≤ k.fixed) → k.count + 2 ≤ k.fixed
    go true f more = let same : l ≡ k = cc in rw (← same) c.0
    go false f more = more f

module _ (d s : List ℕ) where
  pub little_same : (k at : ℕ) → at + k ≤ length d → little k (d ++ s) at ≡ little k d at
  unfolding little
  little_same zero at h = refl
  little_same (suc k) at h =
      let b : get_or (d ++ s) at 0 ≡ get_or d at 0 = get_or-append d s 0 at (omega arith) in
      omega (arith, b, little_same k (at + 1) (omega arith))

  -- and what is put behind is read from there
  pub little_behind : (k at : ℕ) → little k (d ++ s) (length d + at) ≡ little k s at
  unfolding little
  little_behind zero at = refl
  little_behind (suc k) at =
      let e : length d + at + 1 ≡ length d + (at + 1) = omega arith in
      rw e (omega (arith, get_or-append-add d s at 0, little_behind k (at + 1)))

  pub part_same : (from len : ℕ) → from + len ≤ length d → part (d ++ s) from len ≡ part d from len
  part_same from len h =
      ap (take len) (drop-append-le from d s (omega arith)) ∙ take-append-le len (drop from d) s (omega (arith, length-drop from d))

  module _ (at : ℕ) (whole : end_at d at ≤ length d) where
    length_same : length_at (d ++ s) at ≡ length_at d at
    length_same = little_same 2 at (omega arith)

    pub end_same : end_at (d ++ s) at ≡ end_at d at
    end_same = ap (λ (n : ℕ). at + head_bytes + n) length_same

    pub kind_same : kind_at (d ++ s) at ≡ kind_at d at
    kind_same = little_same 2 (at + 2) (omega arith)

    pub payload_same : payload_at (d ++ s) at ≡ payload_at d at
    payload_same = ap (part (d ++ s) (at + head_bytes)) length_same ∙ part_same (at + head_bytes) (length_at d at) whole

  stands_same : (ks : List Kind) (at : ℕ) → kind_at (d ++ s) at ≡ kind_at d at → kind_reply ks (d ++ s) at ≡ kind_reply ks d at
  unfolding kind_reply
  stands_same [] at e = refl
  stands_same (k ∷ ks) at e = ap₂ (λ (n : ℕ) (x : Read Kind). cond (eqb n k.number) (read k) x) e (stands_same ks at e)

  wrong_same : (k : Kind) (at : ℕ) → length_at (d ++ s) at ≡ length_at d at → wanted k (d ++ s) at ≡ wanted k d at → is_wrong k (d ++ s) at ≡ is_wrong k d at
  unfolding is_wrong
  wrong_same k at n m = rw (n, m)

  pub record_same : (kinds : List Kind) (at : ℕ) → Counted kinds → record_reply kinds d at ≡ read tt → record_reply kinds (d ++ s) at ≡ read tt
  unfolding record_reply length_reply
  record_same kinds at c e =
      let t = taken d at kinds e in
      let k = t.kind in
      let w = t.whole in
      let h = counted kinds d at c t.stands in
      let n = length_same at w in
      let m : wanted k (d ++ s) at ≡ wanted k d at = ap (λ (x : ℕ). k.fixed + k.item * x) (little_same 2 (at + head_bytes + k.count) (omega (arith, of_least d at k t.suits))) in
      rw (
        le-ltb (length (d ++ s)) (end_at (d ++ s) at) (omega (arith, end_same at w, length-append d s)),
        stands_same kinds at (kind_same at w) ∙ t.stands,
        wrong_same k at n m ∙ t.suits,
      )
