-- Work. A table of sites, and the list of those that stand in it.
use Rattle.std.specs.Prelude.{ℕ, zero, suc, ◌+◌, ◌≤◌, ◌<◌, List, [], ◌∷◌, ◌≡◌, refl, length, get_or, set, replicate}
use Rattle.std.proofs.Common.{◌∙◌, ap, ap₂, add-one, arith, length-set, get_or-set_same, get_or-set_other}
use Rattle.catalogue.specs.Library.{most_sites}
use Rattle.catalogue.specs.declared.Site.{Site}
use Rattle.catalogue.specs.Said.{no_site, site_table}

-- the first n sites of a table, the last first
unfoldable pub sites_in : List Site → ℕ → List Site
sites_in table zero = []
sites_in table (suc n) = get_or table n no_site ∷ sites_in table n

pub sites_length : (table : List Site) (n : ℕ) → length (sites_in table n) ≡ n
unfolding sites_in
sites_length table zero = refl
sites_length table (suc n) = ap suc (sites_length table n)

-- a site that is put behind the first n stands first
pub sites_kept : (table : List Site) (n m : ℕ) (s : Site) → n ≤ m → sites_in (set table m s) n ≡ sites_in table n
unfolding sites_in
sites_kept table zero m s h = refl
sites_kept table (suc n) m s h = ap₂ ◌∷◌ (get_or-set_other table m n s no_site (λ e. omega (arith, e))) (sites_kept table n m s (omega arith))

pub sites_grow : (table : List Site) (n : ℕ) (s : Site) → n < length table → sites_in (set table n s) (n + 1) ≡ s ∷ sites_in table n
unfolding sites_in
sites_grow table n s h = rw (add-one n) (ap₂ ◌∷◌ (get_or-set_same table n s no_site h) (sites_kept table n n s (omega arith)))

-- a table that has nothing but its first n sites
pub table_none : (table : List Site) → site_table [] ≡ table → site_table (sites_in table 0) ≡ table
unfolding sites_in
table_none table e = e

pub table_grow : (table : List Site) (n : ℕ) (s : Site) → n < length table → site_table (sites_in table n) ≡ table → site_table (sites_in (set table n s) (n + 1)) ≡ set table n s
unfolding site_table
table_grow table n s h e =
    ap site_table (sites_grow table n s h) ∙ ap₂ (λ (t : List Site) (k : ℕ). set t k s) e (sites_length table n)

pub length-table : (ss : List Site) → length (site_table ss) ≡ most_sites
unfolding site_table
length-table [] = refl
length-table (s ∷ ss) = length-set (site_table ss) (length ss) s ∙ length-table ss

-- the sites of a table are those that it was made of
pub sites_back : (ss : List Site) → length ss ≤ most_sites → sites_in (site_table ss) (length ss) ≡ ss
unfolding sites_in site_table
sites_back [] h = refl
sites_back (s ∷ ss) h =
    ap₂ ◌∷◌ (get_or-set_same (site_table ss) (length ss) s no_site (omega (arith, length-table ss)))
    (sites_kept (site_table ss) (length ss) (length ss) s (omega arith) ∙ sites_back ss (omega arith))

-- behind them it is empty
pub table_empty : (ss : List Site) (k : ℕ) → length ss ≤ k → get_or (site_table ss) k no_site ≡ no_site
unfolding site_table
table_empty [] k h = blank most_sites k
  where
    blank : (n k : ℕ) → get_or (replicate n no_site) k no_site ≡ no_site
    blank zero k = refl
    blank (suc n) zero = refl
    blank (suc n) (suc k) = blank n k
table_empty (s ∷ ss) k h = get_or-set_other (site_table ss) (length ss) k s no_site (λ e. omega (arith, e)) ∙ table_empty ss k (omega arith)
