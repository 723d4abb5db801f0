-- Work. The last site turns while the others stay: what they are joined to gives the fields of each product of the turn. And how far a run has come.
use Rattle.std.specs.Prelude.{ℕ, zero, suc, ◌+◌, ◌*◌, ◌-◌, ◌/◌, ◌%◌, ◌≤◌, ◌<◌, ◌≡◌, refl, length, set, take}
use mathlib.Core.List.{List, [], ◌∷◌}
use Rattle.std.proofs.Common.{sym, ◌∙◌, subst, div-add-mod', div-lt_iff_lt-mul, mod-eq_of_lt, mod-lt, mul-le-mul_right, arith, get_or-set_same, get_or-set_other}
use Rattle.std.proofs.Math.Path.{ap, ap₂}
use Rattle.std.proofs.Math.Nat.{mul-add-div_right, mul-add-mod_self_right, div-eq_of_lt}
use Rattle.std.proofs.Math.ListN.{get_or, drop}
use Rattle.reply.specs.Read.{read}
use Rattle.records.specs.declared.Sheet.{Sheet}
use Rattle.assembly.specs.declared.BlockAt.{BlockAt}
use Rattle.catalogue.specs.Library.{most_sites, most_candidates, Library, library_reply}
use Rattle.catalogue.specs.Products.{products, choice_at, product_at}
use Rattle.catalogue.specs.declared.Site.{Site}
use Rattle.catalogue.specs.Said.{no_site}
use Rattle.catalogue.specs.Table.{sites_in}
use Rattle.arms.proofs.Keeping.{put_next}
use Rattle.arms.specs.Arms.{no_arm, stem_of, joined_to, stem_joined, row_arm}
use Rattle.arms.specs.declared.Arm.{Arm}
use Rattle.arms.specs.declared.Core.{Core}
use Rattle.arms.specs.declared.Stem.{Stem}
use Rattle.stock.specs.Stock.{all_places}
use Rattle.library.specs.Chosen.{choice_in, Picked}
use Rattle.library.specs.Held.{Spread, few, many, product_spread}
use Rattle.library.specs.Steps.{Ran, behind, steps_from}
use Rattle.library.specs.declared.last.Staying.{Staying}

-- a buffer whose first bytes are written, and what the steps make of the rest
pub record Going (s : Sheet) (d : List ℕ) (whole : Ran) (out : List ℕ) (p at : ℕ) : Type 0 where
  pub fuel : ℕ
  pub within : at ≤ length out
  pub lasts : length out ≤ at + fuel
  pub same : whole ≡ behind (take at out) (steps_from fuel s d p (drop at out))

-- what stays gives the products from a position on, one for each arm that is left
pub record Turns (d : List ℕ) (l : Library) (all : List (List ℕ)) (position : ℕ) (s : Staying) : Type 0 where
  pub reads : library_reply d ≡ read l
  pub some : 1 ≤ s.left
  pub stands : s.place + s.left ≤ all_places
  pub last : position + s.left ≤ products l.sites
  pub same : (j : ℕ) → j < s.left → joined_to s.stem (row_arm (get_or all (s.place + j) [])) ≡ product_at d l (position + j)

-- the first digits do not see a later one
choice_kept : (digits : List ℕ) (m x k : ℕ) → k ≤ m → choice_in (set digits m x) k ≡ choice_in digits k
unfolding choice_in
choice_kept digits m x zero h = refl
choice_kept digits m x (suc k) h = ap₂ ◌∷◌ (get_or-set_other digits m k x 0 (λ e. omega (arith, e))) (choice_kept digits m x k (omega arith))

-- a position some places on, before the last site's digit has run over
module _ (p m : ℕ) (some : 0 < m) where
  module _ (j : ℕ) (low : p % m + j < m) where
    on : p + j ≡ p / m * m + (p % m + j)
    on = omega (arith, div-add-mod' p m)

    digit_on : (p + j) % m ≡ p % m + j
    digit_on = ap (λ (x : ℕ). x % m) on ∙ mul-add-mod_self_right (p / m) m (p % m + j) ∙ mod-eq_of_lt low

    rest_on : (p + j) / m ≡ p / m
    rest_on = ap (λ (x : ℕ). x / m) on ∙ mul-add-div_right some (p / m) (p % m + j) ∙ omega (arith, div-eq_of_lt {n = p % m + j} {m = m} low)

  turn_ends : (q : ℕ) → p < q * m → p + (m - p % m) ≤ q * m
  turn_ends q h = let most : (p / m + 1) * m ≤ q * m = mul-le-mul_right m (omega (arith, (div-lt_iff_lt-mul {x = p} {y = q} some).1 h)) in
      omega (arith, div-add-mod' p m, mod-lt p some, most)

module _ {d : List ℕ} {l : Library} {bs : List BlockAt} {xs : List ℕ} {sites : List Site} {k : ℕ} {c : Core} {all : List (List ℕ)} (t : Spread d l bs xs sites (suc k) c all)
    (position : ℕ) (low : position < products l.sites) (digits : List ℕ) (long : length digits ≡ most_sites)
    (chosen : choice_in digits (suc k) ≡ choice_at (sites_in sites (suc k)) position) (arms : List Arm) (wide : length arms ≡ most_sites) (picked : Picked all digits k arms) where
  abbrev digit : ℕ
  digit = get_or digits k 0

  abbrev last_many : ℕ
  last_many = (get_or sites k no_site).many

  some : 0 < last_many
  some = (many t.held k (omega arith)).low

  digit_is : digit ≡ position % last_many
  unfolding choice_in choice_at sites_in
  digit_is = ap (λ (ys : List ℕ). get_or ys 0 0) chosen

  rest_is : choice_in digits k ≡ choice_at (sites_in sites k) (position / last_many)
  unfolding choice_in choice_at sites_in
  rest_is = ap (λ (ys : List ℕ). drop 1 ys) chosen

  ends : position + (last_many - digit) ≤ products l.sites
  unfolding products sites_in
  ends =
      let e : products l.sites ≡ products (sites_in sites k) * last_many = ap products (sym t.held.same) in
      omega (arith, e, digit_is, turn_ends position last_many some (products (sites_in sites k)) (omega (arith, e, low)))

  module _ (j : ℕ) (h : j < last_many - digit) where
    abbrev turned : List ℕ
    turned = set digits k (digit + j)

    within : k < length digits
    within = omega (arith, long, few t.held)

    under : position % last_many + j < last_many
    under = omega (arith, digit_is, h)

    -- the choice so many positions on
    chosen_on : choice_in turned (suc k) ≡ choice_at (sites_in sites (suc k)) (position + j)
    unfolding choice_in choice_at sites_in
    chosen_on =
        ap₂ ◌∷◌ (get_or-set_same digits k (digit + j) 0 within ∙ omega (arith, digit_is, digit_on position last_many some j under))
        (choice_kept digits k (digit + j) k (omega arith) ∙ rest_is ∙ ap (choice_at (sites_in sites k)) (sym (rest_on position last_many some j under)))

    abbrev arm : Arm
    arm = row_arm (get_or all (most_candidates * k + digit + j) [])

    here : get_or (set arms k arm) k no_arm ≡ arm
    here = get_or-set_same arms k arm no_arm (omega (arith, wide, few t.held))

    before : (i : ℕ) → i < k → get_or (set arms k arm) i no_arm ≡ get_or arms i no_arm
    before i q = get_or-set_other arms k i arm no_arm (λ e. omega (arith, e))

    picked_on : Picked all turned (suc k) (set arms k arm)
    picked_on =
        let z : most_candidates * k + digit + j ≡ most_candidates * k + get_or turned k 0 = omega (arith, get_or-set_same digits k (digit + j) 0 within) in
        record { arm = λ i q. put_next no_arm (λ (i : ℕ). row_arm (get_or all (most_candidates * i + get_or turned i 0) [])) arms k arm (omega (arith, wide, few t.held)) (ap (λ (p : ℕ). row_arm (get_or all p [])) z) old i (omega arith) }
      where
        old : (i : ℕ) → i < k → get_or arms i no_arm ≡ row_arm (get_or all (most_candidates * i + get_or turned i 0) [])
        old i q = picked.arm i q ∙ ap (λ (x : ℕ). row_arm (get_or all (most_candidates * i + x) [])) (sym (get_or-set_other digits k i (digit + j) 0 (λ e. omega (arith, e))))

    product_on : joined_to (stem_of c arms k) (row_arm (get_or all (most_candidates * k + digit + j) [])) ≡ product_at d l (position + j)
    product_on =
        ap (joined_to (stem_of c arms k)) (sym here)
        ∙ stem_joined c arms (set arms k arm) k (λ i q. sym (before i q))
        ∙ product_spread t (position + j) (omega (arith, ends, h)) turned chosen_on (set arms k arm) picked_on

  -- THE LAST SITE TURNS: what the others are joined to gives all products until it is round
  pub turns : Turns d l all position (record { stem = stem_of c arms k; place = most_candidates * k + digit; left = last_many - digit })
  turns = record {
    reads = t.held.reads;
    some = omega (arith, digit_is, mod-lt position some);
    stands = omega (arith, few t.held, (many t.held k (omega arith)).high, digit_is, mod-lt position some);
    last = ends;
    same = product_on;
  }

-- as the code has it
pub staying : {d : List ℕ} {l : Library} {bs : List BlockAt} {xs : List ℕ} {sites : List Site} {n k : ℕ} {c : Core} {all : List (List ℕ)} → n ≡ suc k → Spread d l bs xs sites n c all
    → (position : ℕ) → position < products l.sites → (digits : List ℕ) → length digits ≡ most_sites → choice_in digits n ≡ choice_at (sites_in sites n) position
    → (arms : List Arm) → length arms ≡ most_sites → Picked all digits k arms → (s : Stem) → s ≡ stem_of c arms k
    → Turns d l all position (record { stem = s; place = most_candidates * k + get_or digits k 0; left = (get_or sites k no_site).many - get_or digits k 0 })
staying {d} {l} {bs} {xs} {sites} {n} {k} {c} {all} e t position low digits long chosen arms wide picked s q =
    let held : Spread d l bs xs sites (suc k) c all = subst (λ (m : ℕ). Spread d l bs xs sites m c all) e t in
    let chosen' : choice_in digits (suc k) ≡ choice_at (sites_in sites (suc k)) position = subst (λ (m : ℕ). choice_in digits m ≡ choice_at (sites_in sites m) position) e chosen in
    subst (λ (x : Stem). Turns d l all position (record { stem = x; place = most_candidates * k + get_or digits k 0; left = (get_or sites k no_site).many - get_or digits k 0 })) (sym q) (turns held position low digits long chosen' arms wide picked)
