mod Errors
