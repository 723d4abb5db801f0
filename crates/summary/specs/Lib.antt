-- Summaries of blocks in bytes.
--
-- | notion                                        | meaning                                      | the law that matters                                         |
-- | `stored_fields`, `seen_at`, `vertex_at`, `far_at` | what bytes say of a block, whatever they are | `summary_told`: where they begin with its summary, the block |
-- | `set_in`                                       | the set of an atom                           | `set_told`: its neighbours in the block                      |
-- | `stored_degree`, `stored_atoms`, `stored_number` | its bonds at an atom, its atoms, its number  | `ends_told`, `atoms_told`, `number_told`                     |
-- | `summary_of`                                   | the bytes of a block's summary               | `length_summary`; `fields_told`, `vertex_told`, `far_told`   |
pub mod Layout
pub mod Summary
pub mod Back
pub mod Unique
pub mod Examples
