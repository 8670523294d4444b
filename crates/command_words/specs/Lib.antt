-- One module: which words fit, and the command that they give.
pub mod Commands
