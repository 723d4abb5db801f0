-- Molecules that differ only in the numbering of their atoms: what is told of the one is told of the other.
--
-- | notion                          | meaning                                                            | the law that matters                                                              |
-- | `Matching n m` (graph)          | the numbers 1 to n and 1 to m in pairs                             | `sum_same`, `pairs_same`, `most_same`                                             |
-- | `Renumbered g h`                | the atoms in pairs, bonds carried to bonds both ways               | `same_distance`: distances follow their atoms; `same_indices`                     |
-- | `Partners r e f`                | bond f joins the partners of the ends of bond e                    | `follows`, `same_share`: what is told of a bond follows it                        |
-- | `Alike r f k`                   | f gives for two atoms what k gives for their partners              | `same_over`: the sum over the bonds is the same                                   |
-- | `RelistedBlocks`                | two blocks that are not refused and differ only so                 | `block_indices`, `block_shares`, `block_balaban`, `block_szeged`, `share_follows` |
-- | `RelistedDecks`                 | two decks that are not refused, and whose molecules differ only so | `same_sheet`, `exchanged`, `same_verdict`, `claims_agree`                         |
-- | `relisted`, `renaming`, `after` | ways to list a molecule again                                      | each is a `Renumbered`                                                            |
-- | `is_renumbered`                 | a numbering that is handed in, tried by computing                  | `renumbered_by`                                                                   |
pub mod Renumbered
pub mod Decks
pub mod Decided
pub mod Bonds
pub mod Shorter
pub mod Ways
