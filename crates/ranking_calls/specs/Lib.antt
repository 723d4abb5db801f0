-- The best products of a library as C asks for them.
--
-- | notion     | meaning                                                            | the law that matters |
-- | `best_for` | what `ranking::best` answers; no entry is lent where `held` is not | `unlent_best`        |
-- | `Ranks`    | the reply, the entries and the number after the call               | `ranks_once`         |
-- Definitions
pub mod Ranks
-- Laws
pub mod Unlent
pub mod Unique
