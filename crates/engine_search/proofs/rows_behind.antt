mod Looking
mod Numbering
