use mathlib.Core.Path.{refl, ◌∙◌}
use Rattle.molfile.proofs.Same.{number_is, kept_is, inside_up}
use Rattle.molfile.proofs.Keeping.{front_is}
use native.Mathlib.Omega.{arith}
use Rattle.molfile.proofs.dropping.kept.Goals as goal

-- `kept` meets its contract: weights, numbers and bonds one after the other.
pub weigh-requires : goal.weigh-requires
weigh-requires c =
    (c.requires.1, refl, inside_up c.args.n c.args.m c.args.ones.now c.args.twos.now c.requires.0 c.requires.2)

pub renumber-atoms-requires : goal.renumber-atoms-requires
renumber-atoms-requires c = (c.requires.0, c.weigh.ensures.size)

pub keep-taken-requires : goal.keep-taken-requires
keep-taken-requires c =
    (c.requires.1, inside_up c.args.n c.args.m c.args.ones.now c.args.twos.now c.requires.0 c.requires.2)

pub returns : goal.returns
returns c =
    let K = c.keep-taken.ensures in
    let N = c.renumber-atoms.ensures in
    let w = c.weigh.ensures in
    let a = c.args in
    λ h f g.
    let e = kept_is h f a.n a.m a.marks.now a.ones.now a.twos.now g _ w c.requires.0 _ c.renumber-atoms.result N a.m (omega arith) in
    let F = front_is e K in
    record {
      atoms = N.count ∙ number_is h f a.n a.m a.marks.now a.ones.now a.twos.now g _ w c.requires.0 a.n (omega arith);
      count = F.0;
      numbers_are = F.1;
    }
