-- Each case of the replies about molfiles and neighbour texts.
pub mod MolfileReplies
pub mod Texts
