-- What a record is told, test by test. Assumes nothing.
use Prim.Native.Nat.{ℕ, ◌<◌, ◌≤◌}
use mathlib.Core.Bool.{true, false, not}
use mathlib.Core.List.{List, [], ◌∷◌}
use mathlib.Core.Path.{◌≡◌}
use borrow.Author.Tests.{eq-eqb, ne_eqb, lt-ltb, le-ltb}
use lib.Dec.{eqb, ltb}
use lib.ListN.{length}
use Rattle.reply.specs.Read.{refused, read, refusal}
use Rattle.records.specs.Records.{sheet_kind, length_at, kind_at, sheet_at, end_at, wanted, kind_reply, is_wrong, length_reply, record_reply}
use Rattle.records.specs.declared.Kind.{Kind}
use Rattle.records.specs.declared.Sheet.TheVariants.{Five, Six}

module _ (k : Kind) (d : List ℕ) (at : ℕ) where
  pub length_wrong : is_wrong k d at ≡ true → length_reply k d at ≡ refused (refusal 13 at)
  unfolding length_reply
  length_wrong h = rw h

  pub length_right : is_wrong k d at ≡ false → length_reply k d at ≡ read tt
  unfolding length_reply
  length_right h = rw h

  pub wrong_loose : k.loose ≡ true → is_wrong k d at ≡ ltb (length_at d at) k.fixed
  unfolding is_wrong
  wrong_loose o = rw o

  pub wrong_counted : k.loose ≡ false → is_wrong k d at ≡ not (eqb (length_at d at) (wanted k d at))
  unfolding is_wrong
  wrong_counted o = rw o

module _ (a b : Kind) (d : List ℕ) (at : ℕ) where
  pub cut_off : length d < end_at d at → record_reply (a ∷ b ∷ []) d at ≡ refused (refusal 11 at)
  unfolding record_reply
  cut_off h = rw (lt-ltb (length d) (end_at d at) h)

  module _ (whole : end_at d at ≤ length d) where
    pub is_one : kind_at d at ≡ a.number → record_reply (a ∷ b ∷ []) d at ≡ length_reply a d at
    unfolding record_reply kind_reply
    is_one h = rw (le-ltb (length d) (end_at d at) whole, eq-eqb (kind_at d at) a.number h)

    module _ (other : kind_at d at ≡ a.number → ⊥) where
      pub is_other : kind_at d at ≡ b.number → record_reply (a ∷ b ∷ []) d at ≡ length_reply b d at
      unfolding record_reply kind_reply
      is_other h = rw (le-ltb (length d) (end_at d at) whole, ne_eqb (kind_at d at) a.number other, eq-eqb (kind_at d at) b.number h)

      pub is_neither : (kind_at d at ≡ b.number → ⊥) → record_reply (a ∷ b ∷ []) d at ≡ refused (refusal 12 at)
      unfolding record_reply kind_reply
      is_neither h = rw (le-ltb (length d) (end_at d at) whole, ne_eqb (kind_at d at) a.number other, ne_eqb (kind_at d at) b.number h)

-- a sheet of six fields, or of five
module _ (d : List ℕ) (at : ℕ) where
  pub is_six : kind_at d at ≡ (sheet_kind Six).number → sheet_at d at ≡ Six
  unfolding sheet_at
  is_six h = rw (eq-eqb (kind_at d at) (sheet_kind Six).number h)

  pub not_six : (kind_at d at ≡ (sheet_kind Six).number → ⊥) → sheet_at d at ≡ Five
  unfolding sheet_at
  not_six h = rw (ne_eqb (kind_at d at) (sheet_kind Six).number h)
