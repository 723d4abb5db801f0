-- Laws. What holds of a record that is taken. Assumes nothing.
use Rattle.std.specs.Prelude.{ℕ, ◌≤◌, Bool, ◌≡◌, eqb, ltb, length}
use Rattle.std.proofs.Math.Bool.{true, false}
use mathlib.Core.List.{List, [], ◌∷◌}
use Rattle.std.proofs.Math.Path.{refl}
use Rattle.std.proofs.Common.{arith}
use Rattle.std.proofs.Math.Decide.{ℕ_discrete}
use borrow.Author.Tests.{eq-eqb, ne_eqb, eqb-true, ltb-false, not-false}
use Rattle.reply.specs.Read.{read, refuse_if}
use Rattle.reply.specs.Chain.{not_read, then-read, if_read}
use Rattle.records.specs.Records.{sheet_kind, length_at, kind_at, sheet_at, end_at, wanted, kind_reply, is_wrong, length_reply, record_reply}
use Rattle.records.specs.declared.Kind.{Kind}
use Rattle.records.specs.declared.Sheet.{Sheet}
use Rattle.records.specs.declared.Sheet.TheVariants.{Five, Six}

-- it lies within the list, and is of a kind that may stand there and of that kind's length
pub record Taken (kinds : List Kind) (d : List ℕ) (at : ℕ) : Type 0 where
  pub whole : end_at d at ≤ length d
  pub kind : Kind
  pub stands : kind_reply kinds d at ≡ read kind
  pub suits : is_wrong kind d at ≡ false

module _ (d : List ℕ) (at : ℕ) where
  pub taken : (kinds : List Kind) → record_reply kinds d at ≡ read tt → Taken kinds d at
  unfolding record_reply length_reply
  taken kinds e =
      let (u, p, f) = then-read (refuse_if (ltb (length d) (end_at d at)) 11 at) _ e in
      let (k, q, g) = then-read (kind_reply kinds d at) (λ k. length_reply k d at) f in
      record {
        whole = ltb-false (length d) (end_at d at) (if_read (ltb (length d) (end_at d at)) 11 at p);
        kind = k;
        stands = q;
        suits = if_read (is_wrong k d at) 13 at g;
      }

  -- a kind that counts its items has the length that they ask, any kind the bytes that hold its counts
  of_length : (k : Kind) → is_wrong k d at ≡ false → k.loose ≡ false → length_at d at ≡ wanted k d at
  unfolding is_wrong
  of_length k e o = eqb-true (length_at d at) (wanted k d at) (not-false (eqb (length_at d at) (wanted k d at)) (rw o at e))

  pub of_least : (k : Kind) → is_wrong k d at ≡ false → k.fixed ≤ length_at d at
  unfolding is_wrong
  of_least k e = go k.loose refl
    where
      go : (t : Bool) → k.loose ≡ t → k.fixed ≤ length_at d at
      go true o = ltb-false (length_at d at) k.fixed (rw o at e)
      go false o = omega (arith, of_length k e o)

  -- the first kind, where that is its number; else another, and with no other there is none
  pub of_first : (k : Kind) (ks : List Kind) → record_reply (k ∷ ks) d at ≡ read tt → kind_at d at ≡ k.number → k.loose ≡ false → length_at d at ≡ wanted k d at
  unfolding kind_reply
  of_first k ks e n o =
      let t = taken (k ∷ ks) e in
      let s : read k ≡ read t.kind = rw (eq-eqb (kind_at d at) k.number n) at t.stands in
      let same : k ≡ t.kind = cc in
      of_length k (rw same t.suits) o

  pub of_other : (k : Kind) (ks : List Kind) → record_reply (k ∷ ks) d at ≡ read tt → (kind_at d at ≡ k.number → ⊥) → record_reply ks d at ≡ read tt
  unfolding record_reply kind_reply
  of_other k ks e n = rw (ne_eqb (kind_at d at) k.number n) at e

  of_none : record_reply [] d at ≡ read tt → ⊥
  unfolding kind_reply
  of_none e = not_read (taken [] e).stands

  pub of_one : (k : Kind) → record_reply (k ∷ []) d at ≡ read tt → kind_at d at ≡ k.number
  of_one k e = go (ℕ_discrete (kind_at d at) k.number)
    where
      go : Dec (kind_at d at ≡ k.number) → kind_at d at ≡ k.number
      go (yes p) = p
      go (no p) = absurd (of_none (of_other k [] e p))

  -- of the two kinds of sheets, the one whose number stands there; it has no items
  pub sheet_stands : (s : Sheet) → kind_at d at ≡ (sheet_kind s).number → kind_reply (sheet_kind Five ∷ sheet_kind Six ∷ []) d at ≡ read (sheet_kind s)
  unfolding kind_reply
  sheet_stands Five e = rw e refl
  sheet_stands Six e = rw e refl

  pub sheet_wants : (s : Sheet) → wanted (sheet_kind s) d at ≡ (sheet_kind s).fixed
  sheet_wants Five = omega arith
  sheet_wants Six = omega arith

  pub sheet_told : (s : Sheet) → kind_at d at ≡ (sheet_kind s).number → sheet_at d at ≡ s
  unfolding sheet_at
  sheet_told Five e = rw e refl
  sheet_told Six e = rw e refl

  pub sheet_suits : (s : Sheet) → length_at d at ≡ (sheet_kind s).fixed → is_wrong (sheet_kind s) d at ≡ false
  unfolding is_wrong
  sheet_suits Five e = rw (eq-eqb (length_at d at) (wanted (sheet_kind Five) d at) (omega (arith, e)))
  sheet_suits Six e = rw (eq-eqb (length_at d at) (wanted (sheet_kind Six) d at) (omega (arith, e)))
