-- What a yes to a matching means: the deck's molecule and the listed one differ only in the numbering of their atoms.
--
-- | notion           | meaning                                                              | the law that matters                                     |
-- | `back_in`         | the number that leads to a given one, looked for                     | `paired`: a one-to-one map of 1 to n is a matching       |
-- | `Same`           | a deck that is read, the renumbering, and that the list is a molecule | `matched_renumbered`, `matched_told`; `renumbered_matched` |
-- | (its fields)     | the deck's sheet has the fields of the listed molecule               | `matched_fields`, `matched_sheet`, `claimed_exactly`     |
pub mod Paired
pub mod Yes
pub mod Same
pub mod Converse
pub mod Examples
