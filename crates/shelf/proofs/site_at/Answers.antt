use Prim.Native.Nat.{ℕ}
use mathlib.Core.List.{List}
use mathlib.Core.Path.{◌≡◌, refl, ap, ◌∙◌}
use Rattle.assembly.specs.Placements.{atom_site}
use Rattle.assembly.specs.declared.JoinSite.{JoinSite}
use Rattle.shelf.specs.Shelf.{sites_in}
use Rattle.shelf.proofs.site_at.Goals as goal

-- `shelf::site_at` meets its contract. Assumes nothing.
pub returns : goal.returns
returns c =
    let a = c.args in
    let r = c.summary_at-s.result in
    let both : ◌≡◌ {A = JoinSite} (record { atoms = c.atoms.result; ends = c.ends.result }) (atom_site (sites_in r.now) a.a) = rw (c.atoms.ensures, c.ends.ensures) refl in
    both ∙ ap (λ (l : List ℕ). atom_site (sites_in l) a.a) c.summary_at-s.ensures.bytes
