-- Laws. No field matters that some claims do not ask for. Assumes nothing.
use Prim.Native.Nat.{ℕ, zero, suc, ◌+◌, ◌≤◌, ◌<◌}
use Rattle.std.specs.Prelude.{Bool, ◌≡◌, eqb, Option, Some, None}
use Rattle.std.proofs.Math.Bool.{true, false}
use mathlib.Core.List.{List, [], ◌∷◌}
use Rattle.std.proofs.Math.Path.{refl}
use Rattle.std.proofs.Common.{sym, ◌∙◌, ap, arith}
use borrow.Author.Tests.{lt-ltb, le-ltb, eq-eqb, ne_eqb, ltb-true}
use Rattle.std.proofs.Math.Dec.{ltb}
use Rattle.std.proofs.Math.ListN.{length}
use Rattle.reply.specs.Read.{Read, refused, read, ◌then◌, refuse_if, if_else}
use Rattle.reply.specs.Chain.{not_read, then-read, unique}
use Rattle.records.specs.Bytes.{byte_at, part}
use Rattle.claiming.specs.Claims.{printed_of, claim_of, said_reading, size_at, claim_reply, claims_from, claims_in, truth, field_of, is_right, first_wrong_claim, any_sets, claims_end, claims_reply}
use Rattle.claiming.specs.Asked.{asks_from, asks}
use Rattle.claiming.specs.Going.{claim_read}
use Rattle.printed.specs.declared.Number.{Number}
use Rattle.claiming.specs.declared.Claim.{Claim}

-- Place by place.
module _ (f : ℕ) (cs : List ℕ) where
  pub asks_all : asks f cs ≡ asks_from (length cs) f cs 0
  unfolding asks
  asks_all = refl

  pub asks_end : (fuel at : ℕ) → length cs ≤ at → asks_from fuel f cs at ≡ false
  unfolding asks_from
  asks_end zero at h = refl
  asks_end (suc fuel) at h = rw (le-ltb at (length cs) h)

  asks_first : (fuel at : ℕ) → at < length cs → byte_at cs at ≡ f → asks_from (suc fuel) f cs at ≡ true
  unfolding asks_from
  asks_first fuel at h e = rw (lt-ltb at (length cs) h, eq-eqb (byte_at cs at) f e)

  asks_next : (fuel at : ℕ) → at < length cs → (byte_at cs at ≡ f → ⊥) → asks_from (suc fuel) f cs at ≡ asks_from fuel f cs (at + size_at cs at)
  unfolding asks_from
  asks_next fuel at h e = rw (lt-ltb at (length cs) h, ne_eqb (byte_at cs at) f e)

  -- what is asked for behind the claim at a place is asked for from there on
  asks_behind : (fuel at : ℕ) → at < length cs → asks_from fuel f cs (at + size_at cs at) ≡ true → asks_from (suc fuel) f cs at ≡ true
  unfolding asks_from
  asks_behind fuel at h e = rw (lt-ltb at (length cs) h) (go (eqb (byte_at cs at) f))
    where
      go : (t : Bool) → if_else t (λ _. true) (λ _. asks_from fuel f cs (at + size_at cs at)) ≡ true
      go true = refl
      go false = e

  -- fuel for every byte that is left lasts
  asks_alike : (m n at : ℕ) → asks_from m f cs (at + size_at cs at) ≡ asks_from n f cs (at + size_at cs at) → asks_from (suc m) f cs at ≡ asks_from (suc n) f cs at
  unfolding asks_from
  asks_alike m n at e = rw e

  asks_lasts : (m n at : ℕ) → length cs ≤ at + m → length cs ≤ at + n → asks_from m f cs at ≡ asks_from n f cs at
  asks_lasts zero n at h l = asks_end zero at (omega arith) ∙ sym (asks_end n at (omega arith))
  asks_lasts (suc m) zero at h l = asks_end (suc m) at (omega arith) ∙ sym (asks_end zero at (omega arith))
  asks_lasts (suc m) (suc n) at h l = asks_alike m n at (asks_lasts m n (at + size_at cs at) (omega arith) (omega arith))

  pub asks_here : (at : ℕ) → at < length cs → byte_at cs at ≡ f → asks_from (length cs) f cs at ≡ true
  asks_here at h e = asks_lasts (length cs) (suc (length cs)) at (omega arith) (omega arith) ∙ asks_first (length cs) at h e

  pub asks_later : (at : ℕ) → at < length cs → (byte_at cs at ≡ f → ⊥) → asks_from (length cs) f cs at ≡ asks_from (length cs) f cs (at + size_at cs at)
  asks_later at h e = asks_lasts (length cs) (suc (length cs)) at (omega arith) (omega arith) ∙ asks_next (length cs) at h e

-- a claim that is read is of the field that its first byte says
said_field : (f k : ℕ) (p : Option Number) (c : Claim) → claim_of f k p ≡ read c → c.field ≡ f
said_field f k None c e = absurd (not_read e)
said_field f k (Some x) c e = let same : record { field = f; value = x.value; unit = x.unit } ≡ c = cc in sym (ap (λ (y : Claim). y.field) same)

claim_field : (most : ℕ) (cs : List ℕ) (at k : ℕ) (c : Claim) → claim_reply most cs at k ≡ read c → c.field ≡ byte_at cs at
unfolding said_reading
claim_field most cs at k c e = said_field (byte_at cs at) k (printed_of (byte_at cs at) (part cs (at + 2) (byte_at cs (at + 1)))) c (claim_read most cs at k e).2

-- FIELDS ALIKE where some claims ask for them
pub record AlikeIn (cs fs gs : List ℕ) : Type 0 where
  pub count : length fs ≡ length gs
  pub alike : (f : ℕ) → asks f cs ≡ true → field_of fs f ≡ field_of gs f

right_alike : (fs gs : List ℕ) (above : ℕ) (c : Claim) → field_of fs c.field ≡ field_of gs c.field → is_right fs above c ≡ is_right gs above c
unfolding is_right
right_alike fs gs above c e = rw e

module _ (cs fs gs : List ℕ) (above most : ℕ) where
  -- of claims that are read from a place on, each field asked for is the same
  wrong_alike : (fuel at k : ℕ) (xs : List Claim) → claims_from fuel most cs at k ≡ read xs → ((f : ℕ) → asks_from fuel f cs at ≡ true → field_of fs f ≡ field_of gs f) → (j : ℕ) → first_wrong_claim fs above j xs ≡ first_wrong_claim gs above j xs
  unfolding claims_from first_wrong_claim
  wrong_alike zero at k xs e same j = let none : [] ≡ xs = cc in rw (← none)
  wrong_alike (suc fuel) at k xs e same j = go (ltb at (length cs)) refl e (λ more q l. wrong_alike fuel (at + size_at cs at) (suc k) more q (λ i a. same i (asks_behind i cs fuel at l a)) (suc j))
    where
      go : (t : Bool) → ltb at (length cs) ≡ t
          → if_else t (λ _. claim_reply most cs at k then λ c. claims_from fuel most cs (at + size_at cs at) (suc k) then λ more. read (c ∷ more)) (λ _. read []) ≡ read xs
          → ((more : List Claim) → claims_from fuel most cs (at + size_at cs at) (suc k) ≡ read more → at < length cs → first_wrong_claim fs above (suc j) more ≡ first_wrong_claim gs above (suc j) more)
          → first_wrong_claim fs above j xs ≡ first_wrong_claim gs above j xs
      go false l f ih = let none : [] ≡ xs = cc in rw (← none)
      go true l f ih =
          let (c, p, g) = then-read (claim_reply most cs at k) _ f in
          let (more, q, h) = then-read (claims_from fuel most cs (at + size_at cs at) (suc k)) _ g in
          let all : c ∷ more ≡ xs = cc in
          let there = ltb-true at (length cs) l in
          let one = right_alike fs gs above c (same c.field (asks_first c.field cs fuel at there (sym (claim_field most cs at k c p)))) in
          rw (← all, one, ih more q there)

-- THE LAW: what claims are told depends on the fields alone that they ask for
pub told_alike : (cs fs gs : List ℕ) (above : ℕ) (tree : Bool) → AlikeIn cs fs gs → claims_reply (truth fs above tree) cs ≡ claims_reply (truth gs above tree) cs
unfolding claims_reply claims_in asks
told_alike cs fs gs above tree A =
    rw A.count (ap (λ (x : Read ℕ). refuse_if (eqb (length cs) 0) 36 0 then λ _. x) (go (claims_from (length cs) (length gs) cs 0 1) refl))
  where
    go : (m : Read (List Claim)) → claims_from (length cs) (length gs) cs 0 1 ≡ m
        → (m then λ xs. claims_end (any_sets xs) tree (first_wrong_claim fs above 1 xs)) ≡ (m then λ xs. claims_end (any_sets xs) tree (first_wrong_claim gs above 1 xs))
    go (refused r) e = refl
    go (read xs) e = ap (claims_end (any_sets xs) tree) (wrong_alike cs fs gs above (length gs) (length cs) 0 1 xs e A.alike 1)

pub unique-is_asked : (f : ℕ) (cs : List ℕ) (r s : Bool) → r ≡ asks f cs → s ≡ asks f cs → r ≡ s
unique-is_asked f cs r s = unique
