mod Again
mod Many
mod Sole
