use Rattle.claims.proofs.Molecules.{ten_fields}
use Rattle.claims.proofs.block_fields.Goals as goal

-- `claims::block_fields` meets its contract. Assumes nothing.
pub returns : goal.returns
returns c = ten_fields _ _ _ _ _ _ _ _ c.requires.1 c.szeged_asked-s.ensures c.sets_asked-t.ensures.bonds c.sets_asked-t.ensures.atoms c.fine_asked-j.ensures
