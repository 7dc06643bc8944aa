pub mod BitWordCalls
