-- Decks read, the six fields of a deck, and the distance of two of its placed atoms.
--
-- | notion                | meaning                                                           | the law that matters |
-- | `fields_reply form d` | the six fields of the molecule written out, or the deck's refusal | `unique-fields`      |
pub mod Fields
pub mod Unique
