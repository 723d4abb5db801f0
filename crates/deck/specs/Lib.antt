-- What a deck says.
--
-- | notion                     | meaning                                                      | the law that matters                                           |
-- | `deck_reply form d`        | refusals 20, 11 to 19 in order, or where everything stands   | `whole`: what a deck that is read keeps to; `fuel_lasts`       |
-- | `open_reply last d`        | the same up to a record of the kind `last`                   | `carried`: the same blocks, whatever stands behind them        |
-- | `open_book last d b`       | the book that is filled while the blocks are read            | `first_opened`: a book of one place holds the first block      |
-- | `molecule_of`              | the molecule of a deck, with every atom and bond written out | `same_molecule`: whatever stands behind the deck               |
-- | `block_span`, `block_part` | the lookup of a block's payload                              | `empty_exactly`                                                |
-- | `Deck`, `Span`             | where the parts stand                                        | `composed_short`: a deck that composes leaves room for a sheet |
-- | `placed_distance_reply`    | the distance in the molecule written out, or a refusal       | `is_missing`; `present`                                        |
-- | `heads_from`, `Unfilled`   | how many blocks a deck can have, and a book with room        | `few_heads`                                                    |
pub mod Deck
pub mod Molecule
pub mod Said
pub mod Placed
pub mod Unfilled
pub mod Filled
pub mod Filling
pub mod Booked
pub mod Kept
pub mod First
pub mod Sound
pub mod Sized
pub mod Followed
pub mod Carried
pub mod Lookup
pub mod Present
pub mod Unique
pub mod Examples
pub mod Distances
