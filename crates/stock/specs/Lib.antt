-- What is kept of a library.
--
-- | notion                  | meaning                                                | the law that matters                             |
-- | `core_at`, `arm_at`       | of its core, and of a site's candidate                 | `arm_stands`: the candidate's block, opened      |
-- | `arms_at`                | the arms of a choice                                   | `arms_there`, `unique-arms_at`                   |
-- | `all_arms`, `arms_among`  | all arms as rows, and the arms of a choice among them  | `row_there`, `among_there`, `unique-arms_among`  |
-- Definitions
pub mod Stock
-- Laws
pub mod Stands
pub mod Unique
