-- Laws. A line is a header of some name exactly where it is a header of a name. Assumes nothing.
use Rattle.std.specs.Prelude.{ℕ, Bool, true, false, ◌&&◌, List, [], ◌∷◌, ◌++◌, ◌↔◌, ◌≡◌, refl, eqb, take}
use Rattle.std.proofs.Common.{true≢false, sym, ◌∙◌, eq-eqb}
use Rattle.reply.specs.Read.{if_else}
use Rattle.text.specs.Text.{ascii, until_feed, starts_with}
use Rattle.sdfile.specs.Sdf.{has_name, tagged, is_header, stands, opens, closes, has_tag, is_some_header}

both : (p q : Bool) → (p && q) ≡ true → (p ≡ true) × (q ≡ true)
both true q e = (refl, e)
both false q e = absurd (true≢false (sym e))

together : {p q : Bool} → p ≡ true → q ≡ true → (p && q) ≡ true
together e f = rw (e, f)

-- what stands before a byte is a name
name_before : (xs : List ℕ) → stands closes xs ≡ true → (name : List ℕ) × (starts_with (name ++ ascii ">") xs ≡ true)
unfolding stands starts_with
name_before [] e = absurd (true≢false (sym e))
name_before (b ∷ bs) e = go (eqb b closes) refl e (λ f. name_before bs f)
  where
    go : (t : Bool) → eqb b closes ≡ t → if_else t (λ _. true) (λ _. stands closes bs) ≡ true → (stands closes bs ≡ true → (name : List ℕ) × (starts_with (name ++ ascii ">") bs ≡ true))
        → (name : List ℕ) × (starts_with (name ++ ascii ">") (b ∷ bs) ≡ true)
    go true q f ih = ([], rw q)
    go false q f ih = let (name, h) = ih f in (b ∷ name, rw (eq-eqb b b refl) h)

before_name : (name xs : List ℕ) → starts_with (name ++ ascii ">") xs ≡ true → stands closes xs ≡ true
unfolding stands starts_with
before_name [] [] e = absurd (true≢false (sym e))
before_name (c ∷ name) [] e = absurd (true≢false (sym e))
before_name [] (b ∷ bs) e = rw (both (eqb b closes) true e).0
before_name (c ∷ name) (b ∷ bs) e = go (eqb b closes) (before_name name bs (both (eqb b c) (starts_with (name ++ ascii ">") bs) e).1)
  where
    go : (t : Bool) → stands closes bs ≡ true → if_else t (λ _. true) (λ _. stands closes bs) ≡ true
    go true h = refl
    go false h = h

-- a tag has a byte that closes it
tag_closes : (xs : List ℕ) → has_tag xs ≡ true → stands closes xs ≡ true
unfolding stands has_tag
tag_closes [] e = absurd (true≢false (sym e))
tag_closes (b ∷ bs) e = go (eqb b opens) (eqb b closes) e (λ f. tag_closes bs f)
  where
    go : (s t : Bool) → if_else s (λ _. stands closes bs) (λ _. has_tag bs) ≡ true → (has_tag bs ≡ true → stands closes bs ≡ true) → if_else t (λ _. true) (λ _. stands closes bs) ≡ true
    go s true f ih = refl
    go true false f ih = f
    go false false f ih = ih f

starts_tag : (name : List ℕ) (b : ℕ) (bs : List ℕ) → eqb b opens ≡ true → starts_with (name ++ ascii ">") bs ≡ true → starts_with (tagged name) (b ∷ bs) ≡ true
unfolding starts_with
starts_tag name b bs q h = rw (q, h)

tag_starts : (name : List ℕ) (b : ℕ) (bs : List ℕ) → starts_with (tagged name) (b ∷ bs) ≡ true → (eqb b opens ≡ true) × (starts_with (name ++ ascii ">") bs ≡ true)
unfolding starts_with
tag_starts name b bs e = both (eqb b opens) (starts_with (name ++ ascii ">") bs) e

tag_named : (xs : List ℕ) → has_tag xs ≡ true → (name : List ℕ) × (has_name (tagged name) xs ≡ true)
unfolding has_tag has_name
tag_named [] e = absurd (true≢false (sym e))
tag_named (b ∷ bs) e = go (eqb b opens) refl e (λ f. tag_named bs f)
  where
    later : (name : List ℕ) (t : Bool) → has_name (tagged name) bs ≡ true → if_else t (λ _. true) (λ _. has_name (tagged name) bs) ≡ true
    later name true h = refl
    later name false h = h

    go : (t : Bool) → eqb b opens ≡ t → if_else t (λ _. stands closes bs) (λ _. has_tag bs) ≡ true → (has_tag bs ≡ true → (name : List ℕ) × (has_name (tagged name) bs ≡ true))
        → (name : List ℕ) × (if_else (starts_with (tagged name) (b ∷ bs)) (λ _. true) (λ _. has_name (tagged name) bs) ≡ true)
    go true q f ih = let (name, h) = name_before bs f in (name, rw (starts_tag name b bs q h))
    go false q f ih = let (name, h) = ih f in (name, later name (starts_with (tagged name) (b ∷ bs)) h)

named_tag : (name xs : List ℕ) → has_name (tagged name) xs ≡ true → has_tag xs ≡ true
unfolding has_tag has_name
named_tag name [] e = absurd (true≢false (sym e))
named_tag name (b ∷ bs) e = go (starts_with (tagged name) (b ∷ bs)) refl (eqb b opens) refl e (λ f. named_tag name bs f)
  where
    go : (s : Bool) → starts_with (tagged name) (b ∷ bs) ≡ s → (t : Bool) → eqb b opens ≡ t → if_else s (λ _. true) (λ _. has_name (tagged name) bs) ≡ true
        → (has_name (tagged name) bs ≡ true → has_tag bs ≡ true) → if_else t (λ _. stands closes bs) (λ _. has_tag bs) ≡ true
    go true p true q f ih = before_name name bs (tag_starts name b bs p).1
    go true p false q f ih = absurd (true≢false (sym (tag_starts name b bs p).0 ∙ q))
    go false p true q f ih = tag_closes bs (ih f)
    go false p false q f ih = ih f

-- THE LAW
pub some_header : (xs : List ℕ) → (is_some_header xs ≡ true) ↔ ((name : List ℕ) × (is_header name xs ≡ true))
unfolding is_some_header is_header
some_header xs = (
  (λ e. let (p, q) = both (starts_with (ascii ">") xs) (has_tag (take (until_feed xs) xs)) e in let (name, h) = tag_named (take (until_feed xs) xs) q in (name, together p h)),
  (λ x. let (p, q) = both (starts_with (ascii ">") xs) (has_name (tagged x.0) (take (until_feed xs) xs)) x.1 in together p (named_tag x.0 (take (until_feed xs) xs) q)),
)
