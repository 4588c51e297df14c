mod Ends
mod Read
