-- What is lent out in each case.
use Prim.Native.Nat.{ℕ, ◌≤◌, ◌<◌}
use mathlib.Core.Bool.{Bool, true, false}
use mathlib.Core.List.{List, [], ◌∷◌}
use mathlib.Core.Path.{◌≡◌, refl, ◌∙◌, ap, subst}
use native.Mathlib.Omega.{arith}
use borrow.Author.Tests.{lt-ltb, le-ltb}
use lib.ListN.{length, set}
use Rattle.reply.specs.Read.{Read, refused, read, ◌then◌, refuse_if, refusal, as_result, as_read}
use Rattle.reply.specs.declared.Refusal.{Refusal}
use Rattle.reply.specs.declared.Counts.{Counts}
use Rattle.calls.specs.Convention.{code, coded, reply_code, over, out_after, number_list, counts_list, Lent, then_nine}
use Rattle.calls.specs.Beside.{with_room, Beside}
use Rattle.reply.specs.Chain.{read_back}
use Rattle.std.specs.Prelude.{Result}

pub reply_coded : (a : Result (Unit {0}) Refusal) (R : Read (Unit {0})) → a ≡ as_result R → reply_code a ≡ coded R
reply_coded a (refused r) e = ap reply_code e
reply_coded a (read tt) e = ap reply_code e

-- ONE OUTPUT. A refusal lends nothing out; an answer goes out where it fits.
pub lent_refused : {A : Type 0} {answer : Read (List A)} (r : Refusal) (old : List A) (x : ℕ) → answer ≡ refused r → x ≡ code r → Lent answer old x old
lent_refused r old x e q = record { replied = rw e q; lent = rw e refl }

pub lent_lacking : {A : Type 0} (xs old : List A) → length old < length xs → Lent (read xs) old 9 old
lent_lacking xs old h = record { replied = rw (lt-ltb (length old) (length xs) h) refl; lent = rw (lt-ltb (length old) (length xs) h) refl }

pub lent_over : {A : Type 0} (xs old new : List A) → length xs ≤ length old → new ≡ over xs old → Lent (read xs) old 0 new
lent_over xs old new h e = record { replied = rw (le-ltb (length old) (length xs) h) refl; lent = rw (le-ltb (length old) (length xs) h) e }

pub lent_read : {A : Type 0} {answer : Read (List A)} (xs old : List A) (x : ℕ) (new : List A) → answer ≡ read xs → Lent (read xs) old x new → Lent answer old x new
lent_read xs old x new e l = rw e l

-- ONE NUMBER, or how many atoms and bonds there are, by the reply that says it; and a number where there is an entry for it
pub lent_number : {old new : List ℕ} {x : ℕ} (a : Result ℕ Refusal) (R : Read ℕ) → a ≡ as_result R → Lent (number_list (as_read a)) old x new → Lent (number_list R) old x new
lent_number {old} {new} {x} a R e l = subst (λ (Q : Read ℕ). Lent (number_list Q) old x new) (read_back a R e) l

pub lent_counts : {old new : List ℕ} {x : ℕ} (a : Result Counts Refusal) (R : Read Counts) → a ≡ as_result R → Lent (counts_list (as_read a)) old x new → Lent (counts_list R) old x new
lent_counts {old} {new} {x} a R e l = subst (λ (Q : Read Counts). Lent (counts_list Q) old x new) (read_back a R e) l

pub number_fits : {old new : List ℕ} {x : ℕ} (R : Read ℕ) → 1 ≤ length old → Lent (number_list R) old x new → (x ≡ coded R) × (new ≡ out_after (number_list R) old)
number_fits (refused r) h l = (l.replied, l.lent)
number_fits {old} (read n) h l = let f = le-ltb (length old) 1 h in (rw f at l.replied, rw f at l.lent)

-- one entry put, and two one after the other
pub first_put : {A : Type 0} (x : A) (old : List A) → 1 ≤ length old → set old 0 x ≡ over (x ∷ []) old
first_put x [] h = absurd (omega arith)
first_put x (a ∷ rest) h = refl

pub both_put : {A : Type 0} (x y : A) (old : List A) → 2 ≤ length old → set (set old 0 x) 1 y ≡ over (x ∷ y ∷ []) old
both_put x y [] h = absurd (omega arith)
both_put x y (a ∷ []) h = absurd (omega arith)
both_put x y (a ∷ b ∷ rest) h = refl

-- TWO OUTPUTS, the second of which wants some entries.
-- what comes before 9 says nothing of rooms
pub nine_then : {A B : Type 0} (R : Read A) (f g : A → Read B) → ((a : A) → then_nine (f a) ≡ then_nine (g a)) → then_nine (R then f) ≡ then_nine (R then g)
nine_then (refused r) f g h = refl
nine_then (read a) f g h = h a

pub nine_room : (t : Bool) → then_nine (refuse_if t 9 0) ≡ refused (refusal 9 0)
nine_room true = refl
nine_room false = refl

pub nine_behind : {A B : Type 0} (R : Read A) (t : A → Bool) (x : A → B) → then_nine (R then λ a. refuse_if (t a) 9 0 then λ _. read (x a)) ≡ then_nine R
nine_behind (refused r) t x = refl
nine_behind (read a) t x = go (t a)
  where
    go : (s : Bool) → then_nine (refuse_if s 9 0 then λ _. read (x a)) ≡ refused (refusal 9 0)
    go true = refl
    go false = refl

nine_is : {A : Type 0} (R : Read A) → (r : Refusal) × (then_nine R ≡ refused r) × ((R then λ a. refuse_if true 9 0 then λ _. read a) ≡ refused r)
nine_is (refused r) = (r, refl, refl)
nine_is (read a) = (refusal 9 0, refl, refl)

pub and_on : {A : Type 0} (R : Read A) → (R then λ a. read a) ≡ R
and_on (refused r) = refl
and_on (read a) = refl

module _ {A B C : Type 0} (R : Read A) (wanted : ℕ) (one : A → List B) (two : A → List C) (old : List B) (more : List C) where
  pub beside_lacking : (x : ℕ) → length more < wanted → x ≡ coded (then_nine R) → Beside (with_room (length more) wanted R) one two old more x old more
  beside_lacking x h q =
      let (r, e, f) = nine_is R in
      let w : with_room (length more) wanted R ≡ refused r = rw (lt-ltb (length more) wanted h) f in
      record { replied = rw w (q ∙ ap coded e); first = rw w refl; second = rw w refl }

  there : wanted ≤ length more → with_room (length more) wanted R ≡ R
  there h = rw (le-ltb (length more) wanted h) (and_on R)

-- TWO OUTPUTS, the second of which is lent out as one: where it has room for what is wanted of it, and where it has none
module _ {A B X : Type 0} (R : Read A) (one : A → List B) (f : A → X) (list : X → List ℕ) (wanted : ℕ) (sized : (y : X) → length (list y) ≡ wanted) (old : List B) (more : List ℕ) {also : List ℕ} {x : ℕ} where
  pub beside_lent : {new : List B} → wanted ≤ length more → new ≡ out_after (R then λ v. read (one v)) old → Lent ((R then λ v. read (f v)) then λ y. read (list y)) more x also
      → Beside (with_room (length more) wanted R) one (λ v. list (f v)) old more x new also
  beside_lent {new} h s l = rw (there R wanted one (λ v. list (f v)) old more h) (go R s l)
    where
      go : (Q : Read A) → new ≡ out_after (Q then λ v. read (one v)) old → Lent ((Q then λ v. read (f v)) then λ y. read (list y)) more x also → Beside Q one (λ v. list (f v)) old more x new also
      go (refused r) s l = record { replied = l.replied; first = s; second = l.lent }
      go (read v) s l =
          let e = le-ltb (length more) (length (list (f v))) (omega (arith, sized (f v), h)) in
          record { replied = rw e at l.replied; first = s; second = rw e at l.lent }

  pub beside_short : (Q : Read A) → length more < wanted → then_nine Q ≡ then_nine R → Lent ((Q then λ v. read (f v)) then λ y. read (list y)) more x also
      → Beside (with_room (length more) wanted R) one (λ v. list (f v)) old more x old also
  beside_short Q h e l = let (p, q) = go Q l in rw q (beside_lacking R wanted one (λ v. list (f v)) old more x h (p ∙ ap coded e))
    where
      go : (Q : Read A) → Lent ((Q then λ v. read (f v)) then λ y. read (list y)) more x also → (x ≡ coded (then_nine Q)) × (also ≡ more)
      go (refused r) l = (l.replied, l.lent)
      go (read v) l =
          let e = lt-ltb (length more) (length (list (f v))) (omega (arith, sized (f v), h)) in
          (rw e at l.replied, rw e at l.lent)

-- such as one number, which a reply says
pub beside_number : {A B : Type 0} (R : Read A) (one : A → List B) (beside : A → ℕ) (old : List B) (more : List ℕ) {new : List B} {also : List ℕ} {x : ℕ} (a : Result ℕ Refusal) → 1 ≤ length more
    → a ≡ as_result (R then λ v. read (beside v)) → new ≡ out_after (R then λ v. read (one v)) old → Lent (number_list (as_read a)) more x also
    → Beside (with_room (length more) 1 R) one (λ v. beside v ∷ []) old more x new also
beside_number R one beside old more a h e s l = beside_lent R one beside (λ n. n ∷ []) 1 (λ n. refl) old more h s (lent_number a (R then λ v. read (beside v)) e l)

-- or how many atoms and bonds there are
module _ {A B : Type 0} (R : Read A) (one : A → List B) (counts : A → Counts) (old : List B) (more : List ℕ) {also : List ℕ} {x : ℕ} (a : Result Counts Refusal) (l : Lent (counts_list (as_read a)) more x also) where
  abbrev pub Counted : List B → Type 0
  Counted new = Beside (with_room (length more) 2 R) one (λ v. (counts v).atoms ∷ (counts v).bonds ∷ []) old more x new also

  pub counts_beside : {new : List B} → 2 ≤ length more → a ≡ as_result (R then λ v. read (counts v)) → new ≡ out_after (R then λ v. read (one v)) old → Counted new
  counts_beside h e s = beside_lent R one counts (λ c. c.atoms ∷ c.bonds ∷ []) 2 (λ c. refl) old more h s (lent_counts a (R then λ v. read (counts v)) e l)

  pub counts_short : (Q : Read A) → length more < 2 → then_nine Q ≡ then_nine R → a ≡ as_result (Q then λ v. read (counts v)) → Counted old
  counts_short Q h n e = beside_short R one counts (λ c. c.atoms ∷ c.bonds ∷ []) 2 (λ c. refl) old more Q h n (lent_counts a (Q then λ v. read (counts v)) e l)
