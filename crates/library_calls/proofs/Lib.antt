-- Each case of a library's step and run.
pub mod Walking
