mod All
mod One
mod Places
