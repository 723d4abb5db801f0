-- How a library deck is read.
--
-- | notion                | meaning                                                        | the law that matters                                     |
-- | `library_reply d`      | a library deck's refusals in order, or where everything stands | `whole`: what a library that is read keeps to            |
-- | `products sites`      | how many products there are                                    | `few_products`: 1 to 4,096                               |
-- | `choice_at sites p`    | the candidates at a position, the last site turning fastest    | `each_choice_once`: positions and choices are one to one |
-- | `assembly_at d l p`    | the assembly of a product, written out                         | `product_fine`: it is never refused                      |
-- | `product_at d l p`     | the fields of its molecule                                     | `product_deck_lem`: those of the deck with that assembly     |
-- | `molecule_over book x` | the molecule of an assembly over a book of blocks              | `product_deck_lem`                                           |
-- | `said_library`         | how the code says what a library deck is told                  | `unique-read_library`                                    |
-- | `site_table`           | a table of sites, each at its turn                             | `sites_back`: its sites are those it was made of         |
-- | `sites_in`             | the first sites of a table, the last first                     | `sites_grow`                                             |
-- Definitions
pub mod Library
pub mod Products
pub mod Written
pub mod Said
-- Work
pub mod Examples
pub mod Table
-- Laws
pub mod Unique
